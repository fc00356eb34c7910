-- The status and the text that answer words and an input.
use Rattle.std.specs.Prelude.{◌≡◌, ℕ, List, ◌++◌, codes, decimal}
use Rattle.hx_words.specs.Usage.{usage_text, version_text}
use Rattle.hx_forms.specs.declared.faults.DescFault.{DescFault}
use Rattle.hx_script.specs.declared.faults.ScriptFault.{ScriptFault}
use Rattle.hx_app.specs.Constants as statuses
use Rattle.hx_app.specs.KindNames.{desc_kind_name, script_kind_name}
use Rattle.hx_app.specs.declared.replies.Reply.{Reply}

pub record Answer : Type 0 where
  pub status : ℕ
  pub text : List ℕ

-- an input that isn't run
abbrev pub description_answer : DescFault → Answer
description_answer f = record {
  status = statuses.description_refused;
  text = codes "description " ++ desc_kind_name f.kind ++ codes " " ++ f.path ++ codes "\n";
}

abbrev pub script_answer : ScriptFault → Answer
script_answer f = record {
  status = statuses.script_refused;
  text = codes "script " ++ decimal f.line ++ codes " " ++ script_kind_name f.kind ++ codes "\n";
}

-- the answers for which no input is read
abbrev pub usage : Answer
usage = record { status = statuses.done; text = usage_text }

abbrev pub version : Answer
version = record { status = statuses.done; text = version_text }

abbrev pub words_refused : Answer
words_refused = record { status = statuses.words_refused; text = codes "words refused\n" }

-- an input that isn't read to its end
abbrev pub read_fault : Answer
read_fault = record { status = statuses.read_fault; text = codes "read fault\n" }

abbrev pub too_long : Answer
too_long = record { status = statuses.too_long; text = codes "input too long\n" }

-- a reply is an answer as it is defined
pub record AnswersAs (wanted : Answer) (reply : Reply) : Type 0 where
  pub status : reply.status.0 ≡ wanted.status
  pub text : reply.text ≡ wanted.text
