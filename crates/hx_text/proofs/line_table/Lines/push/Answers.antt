use Rattle.std.proofs.Common.{◌≡◌, ◌+◌, length, arith, string_bytes}
use Rattle.hx_text.proofs.LineTables.{IsPushed, length_viewed, concat_viewed, table_push, view_push}
use Rattle.hx_text.proofs.line_table.Lines.push.Goals as goal
use Rattle.hx_text.proofs.line_table.Lines.push.Goals.{After-push_reserved}

pub overflow_cast-len : goal.overflow_cast-len
overflow_cast-len c =
    let e = concat_viewed _ _ _ c.self.invariant c.self.view_is in
    omega (arith, c.in_ok-push_str.ensures.len)

pushed : (c : After-push_reserved) → IsPushed (string_bytes c.self.inside.text) c.args.line.now c.self.inside.ends.items (string_bytes c.push_str.new.self) c.push_reserved.new.self.items
pushed c =
    let place : c.len.result ≡ length (string_bytes c.self.inside.text) + length c.args.line.now = omega (arith, c.in_ok-push_str.ensures.len) in
    record { text_is = c.in_ok-push_str.ensures.bytes; ends_is = rw (c.push_reserved.ensures.items, c.reserve.ensures.items, place) }

pub invariant_of-self-2 : goal.invariant_of-self-2
invariant_of-self-2 c =
    let e = length_viewed _ _ _ c.self.view_is in
    table_push _ c.args.line.now _ _ _ c.utf8.line (omega arith) c.self.invariant (pushed c)

pub returns-clause-ok : goal.returns-clause-ok
returns-clause-ok c =
    view_push _ c.args.line.now _ _ _ _ c.self.invariant (pushed c) c.self.view_is
