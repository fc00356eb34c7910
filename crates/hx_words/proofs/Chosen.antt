-- The task of the options that were read.
use Rattle.std.proofs.Common.{◌≡◌, ℕ, ◌^◌, ◌-◌, List, codes}
use Rattle.clap.specs.Walk.{Row, first_of, one_of}
use Rattle.hx_words.specs.declared.RunMode.{RunMode}
use Rattle.hx_words.specs.Tasks.{number_in, mode_in, task_of}

pub task_is : (rows : List Row) (mode : RunMode) (lanes rounds seed size : ℕ) → mode ≡ mode_in (first_of (codes "mode") rows)
    → lanes ≡ number_in 1 16 4 (one_of (codes "lanes") rows) → rounds ≡ number_in 0 1000 10 (one_of (codes "rounds") rows)
    → seed ≡ number_in 0 (2 ^ 64 - 1) 1 (one_of (codes "seed") rows) → size ≡ number_in 1 256 64 (one_of (codes "size") rows)
    → record { mode = mode; lanes = lanes; rounds = rounds; seed = seed; size = size } ≡ task_of rows
task_is rows mode lanes rounds seed size mode_is lanes_is rounds_is seed_is size_is = cc
