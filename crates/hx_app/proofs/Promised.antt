-- A run keeps what its status promises.
use Rattle.std.proofs.Common.{◌≡◌, ℕ, ◌<◌, ◌≤◌, List, [], ◌∷◌, length, map, Result, Ok, Err, ◌⊎◌, refl, sym, ap, subst, ◌∙◌, inl, inr, arith}
use Rattle.std.specs.Io.KnownBytes.{Consumes, IsAtEnd}
use Rattle.hx_words.specs.declared.RunMode.{RunMode}
use Rattle.hx_words.specs.declared.RunMode.TheVariants as modes
use Rattle.hx_words.specs.declared.Task.{Task}
use Rattle.hx_words.specs.declared.Words.{Words}
use Rattle.hx_words.specs.declared.Words.TheVariants as asks
use Rattle.hx_words.specs.declared.WordsFault.{WordsFault}
use Rattle.hx_words.specs.declared.WordsFault.TheVariants as faults
use Rattle.hx_words.specs.Tasks.{HoldsOfAsked, IsAnswer, asked_by}
use Rattle.hx_app.specs.Constants.{most_bytes, no_memory}
use Rattle.hx_app.specs.Replies.{Answer, usage, version, words_refused}
use Rattle.hx_app.specs.declared.program.Behind.{Behind}
use Rattle.hx_app.specs.declared.program.Behind.TheVariants as behinds
use Rattle.hx_app.specs.Writes.{SinkAt, Writes}
use Rattle.hx_app.specs.Runs.{SourceAt, RunsIn, RunsInput, EndsTold, Tells, RunsWords, HoldsOfTold, IsSoundInput, answer_in}
use Rattle.hx_app.proofs.Given.{run_sound}
use Rattle.hx_app.proofs.Sound.{sound_log}

sound_input : (behind : Behind) (bytes : List ℕ) → IsSoundInput behind bytes
sound_input behinds.Script bytes = run_sound bytes
sound_input behinds.Log bytes = sound_log bytes

-- the answer to an input that was read is written, or memory was wanted for it
pub runs_answer : (behind : Behind) (source source' : SourceAt) (sink sink' : SinkAt) (bytes : List ℕ) (status : ℕ)
    → Consumes source.left source'.left bytes → IsAtEnd source'.left → length bytes ≤ most_bytes → source.faults ≤ source'.faults
    → EndsTold (answer_in behind bytes) sink sink' status → RunsInput behind source source' sink sink' status
runs_answer behind source source' sink sink' bytes status given end short later (inl w) = record {
  ended = inl (answer_in behind bytes, inl (bytes, record { given = given; end = end; short = short; sound = sound_input behind bytes }, refl), w);
  source_later = later;
  sink_later = w.later;
}
runs_answer behind source source' sink sink' bytes status given end short later (inr unwritten) = record {
  ended = inr (record { wanted = unwritten.0; got = ap (λ (s : SinkAt). s.got) unwritten.1 });
  source_later = later;
  sink_later = omega (arith, ap (λ (s : SinkAt). s.faults) unwritten.1);
}

-- what was found is what was asked for
pub as_asked : {answer : Result Words WordsFault} (words : List (List ℕ)) (found : Result Words WordsFault) (source source' : SourceAt) (sink sink' : SinkAt) (status : ℕ) (of : HoldsOfAsked words (IsAnswer answer))
    → asked_by of.0 words ≡ found → RunsWords source source' sink sink' status found → HoldsOfAsked words (RunsWords source source' sink sink' status)
as_asked words found source source' sink sink' status of is runs =
    let P : Result Words WordsFault → Type 0 = λ r. RunsWords source source' sink sink' status r in (of.0, of.1, subst P (sym is) runs)

-- memory was wanted before anything was read or written
run_unheard : (mode : RunMode) (task : Task) (source : SourceAt) (sink : SinkAt) → RunsIn mode task source source sink sink no_memory
run_unheard modes.Sim task source sink = record { ended = inr (record { wanted = refl; got = refl }); source_later = omega arith; sink_later = omega arith }
run_unheard modes.Gen task source sink = record { ended = inr (refl, refl); unread = refl }
run_unheard modes.Check task source sink = record { ended = inr (record { wanted = refl; got = refl }); source_later = omega arith; sink_later = omega arith }

pub words_unheard : (asked : Result Words WordsFault) (source : SourceAt) (sink : SinkAt) → RunsWords source source sink sink no_memory asked
words_unheard (Ok (asks.Run task)) source sink = run_unheard task.mode task source sink
words_unheard (Ok asks.Help) source sink = record { ended = inr (refl, refl); unread = refl }
words_unheard (Ok asks.Version) source sink = record { ended = inr (refl, refl); unread = refl }
words_unheard (Err faults.Refused) source sink = record { ended = inr (refl, refl); unread = refl }
words_unheard (Err faults.OutOfMemory) source sink = (refl, refl, refl)

-- an answer to the words alone
told : (answer : Answer) (text : List ℕ) (source : SourceAt) (sink sink' : SinkAt) (result : ℕ) → text ≡ answer.text
    → Writes (record { status = answer.status; text = text }) sink sink' result → Tells answer source source sink sink' result
told answer text source sink sink' result text_is w =
    let P : List ℕ → Type 0 = λ t. Writes (record { status = answer.status; text = t }) sink sink' result in
    record { ended = inl (subst P text_is w); unread = refl }

pub tells_usage : (text : List ℕ) (source : SourceAt) (sink sink' : SinkAt) (result : ℕ) → text ≡ usage.text
    → Writes (record { status = usage.status; text = text }) sink sink' result → RunsWords source source sink sink' result (Ok asks.Help)
tells_usage text source sink sink' result text_is w = told usage text source sink sink' result text_is w

pub tells_version : (text : List ℕ) (source : SourceAt) (sink sink' : SinkAt) (result : ℕ) → text ≡ version.text
    → Writes (record { status = version.status; text = text }) sink sink' result → RunsWords source source sink sink' result (Ok asks.Version)
tells_version text source sink sink' result text_is w = told version text source sink sink' result text_is w

pub refuses_words : (source : SourceAt) (sink sink' : SinkAt) (result : ℕ) → Writes words_refused sink sink' result
    → RunsWords source source sink sink' result (Err faults.Refused)
refuses_words source sink sink' result w = record { ended = inl w; unread = refl }

pub is_refused : (asked : Result Words WordsFault) (fault : WordsFault) → fault ≡ faults.Refused → (fault ≡ faults.OutOfMemory) ⊎ (asked ≡ Err fault) → asked ≡ Err faults.Refused
is_refused asked fault is (inl other) = cc
is_refused asked fault is (inr found) = found ∙ ap (λ (f : WordsFault). Err f) is

-- words that are there
pub holds_of_told : {A : Type 0} (text : A → List ℕ) (words : List A) (Holds : Result Words WordsFault → Type 0) → 0 < length words → HoldsOfAsked (map text words) Holds
    → HoldsOfTold (map text words) Holds
holds_of_told text [] Holds some h = absurd (omega arith)
holds_of_told text (word ∷ words) Holds some h = h
