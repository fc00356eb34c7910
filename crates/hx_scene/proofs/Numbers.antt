-- The numbers of an instance's jobs, put in order from the last job on.
use Rattle.std.proofs.Common.{◌≡◌, ℕ, suc, ◌<◌, Bool, true, false, List, [], ◌∷◌, filter, map, drop, length, get_or, refl, ap, drop-cons}
use Rattle.std.specs.Prelude.{nat_lt}
use Rattle.hx_lists.specs.Lists.{sort_by, insert_by}
use Rattle.hx_ids.specs.declared.InstanceId.{InstanceId}
use Rattle.hx_ids.specs.declared.MsgId.{MsgId}
use Rattle.hx_worlds.specs.World.{Job}
use Rattle.hx_worlds.specs.Jobs.{is_job_of, job_before}
use Rattle.hx_scene.specs.Scenes.{OpenState, plain_job}

abbrev pub before : MsgId → MsgId → Bool
before a b = nat_lt a.0 b.0

abbrev pub numbers_in : InstanceId → List OpenState → List MsgId
numbers_in i jobs = map (λ j. j.message.id) (sort_by job_before (filter (is_job_of i) (map plain_job jobs)))

map-insert : (j : Job) (js : List Job) → map (λ k. k.message.id) (insert_by job_before j js) ≡ insert_by before j.message.id (map (λ k. k.message.id) js)
map-insert j [] = refl
map-insert j (k ∷ js) = one (job_before k j) refl (map-insert j js)
  where
    one : (b : Bool) → job_before k j ≡ b → map (λ k. k.message.id) (insert_by job_before j js) ≡ insert_by before j.message.id (map (λ k. k.message.id) js)
        → map (λ k. k.message.id) (insert_by job_before j (k ∷ js)) ≡ insert_by before j.message.id (map (λ k. k.message.id) (k ∷ js))
    one true e more = rw e (ap (λ ns. k.message.id ∷ ns) more)
    one false e more = rw e refl

more_with : (i : InstanceId) (j : OpenState) (js : List OpenState) → is_job_of i (plain_job j) ≡ true → numbers_in i (j ∷ js) ≡ insert_by before j.ran.message.id (numbers_in i js)
more_with i j js e = rw e (map-insert (plain_job j) (sort_by job_before (filter (is_job_of i) (map plain_job js))))

pub next_with : (i : InstanceId) (jobs : List OpenState) (n m : ℕ) (j : OpenState) → suc m ≡ n → m < length jobs → j ≡ get_or jobs m j → is_job_of i (plain_job j) ≡ true
    → numbers_in i (drop m jobs) ≡ insert_by before j.ran.message.id (numbers_in i (drop n jobs))
next_with i jobs n m j next lt is e = rw (← next, drop-cons jobs m j, ← is) (more_with i j (drop (suc m) jobs) e)
