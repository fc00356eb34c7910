use Rattle.std.proofs.Common.{◌≡◌, ◌∙◌, true, false, List, sym, ap, subst, arith, refl}
use Rattle.std.specs.List.{list_any}
use Rattle.hx_cluster.specs.Ends.{part_eq}
use Rattle.hx_cluster.specs.declared.planning.Candidate.{Candidate}
use Rattle.hx_cluster.specs.declared.happenings.Seen.{Seen}
use Rattle.hx_cluster.specs.Views.{is_well_formed}
use Rattle.hx_ids.specs.declared.PartId.{PartId}
use Rattle.hx_parts.specs.Parts.{items_at, IsByPart}
use Rattle.hx_parts.specs.Marks.{is_marked, IsSpliced}
use Rattle.hx_pass.specs.Waiting.{HasWaiting}
use Rattle.hx_pass.specs.Local.{marked_targets, candidates_within, accepted_within}
use Rattle.hx_pass.proofs.Accepted.{accepted_by_part}
use Rattle.hx_pass.specs.Turns.{posted_of}
use Rattle.hx_gen.proofs.Modelled.{well_formed-modelled}
use Rattle.hx_pass.specs.Known.{IsKnown}
use Rattle.hx_pass.proofs.Again.{spliced_as, spliced_with, formed_by, known_by}
use Rattle.hx_pass.proofs.known.Lists.again.Goals as goal

pub returns-then-not-branch : goal.returns-then-not-branch
returns-then-not-branch c = λ v w known differ narrows.
    let bad : false ≡ is_well_formed c.args.models.now c.args.instances c.args.narrow.now = grind (arith, c.in_ok-is_well_formed_beside.ensures, c.if-not-branch.true) in
    formed_by (record { models = c.args.models.now; instances = c.args.instances; view = v }) c.args.self.now.accepted c.args.self.now.waiting.items c.args.self.now.posted.items known
    (is_marked c.args.marks.now) w differ c.args.models.now c.args.instances c.args.narrow.now refl refl narrows false bad

pub found_among-requires-clause-models : goal.found_among-requires-clause-models
found_among-requires-clause-models c =
    let good : is_well_formed c.args.models.now c.args.instances c.args.narrow.now ≡ true = grind (arith, c.in_ok-is_well_formed_beside.ensures, c.if-not-branch.false) in
    well_formed-modelled c.args.models.now c.args.instances c.args.narrow.now good

pub splice_few-requires-clause-new : goal.splice_few-requires-clause-new
splice_few-requires-clause-new c =
    subst (λ (cs : List Candidate). IsByPart (λ c. c.part) cs) (sym (c.as_slice-found.ensures ∙ c.in_ok-new.ensures.accepted))
    (accepted_by_part c.args.models.now c.args.narrow.now (marked_targets c.args.models.now (is_marked c.args.marks.now) c.args.narrow.now))

pub splice_few-requires-2-clause-new : goal.splice_few-requires-2-clause-new
splice_few-requires-2-clause-new c =
    subst (λ (cs : List Candidate). IsByPart (λ c. c.part) cs) (sym c.as_slice-left.ensures.value) c.in_ok-new.ensures.waiting.by_part

pub splice-requires-clause-new : goal.splice-requires-clause-new
splice-requires-clause-new c =
    subst (λ (rows : List Seen). IsByPart (λ s. s.part) rows) (sym c.as_slice-4.ensures.value) c.in_ok-new.ensures.by_part

pub returns : goal.returns
returns c = λ v w known differ narrows.
    let lists = c.args.self.now in
    let ms = c.args.models.now in
    let n = c.args.instances in
    let marked = is_marked c.args.marks.now in
    let narrow = c.args.narrow.now in
    let good : is_well_formed ms n narrow ≡ true = grind (arith, c.in_ok-is_well_formed_beside.ensures, c.if-not-branch.false) in
    let listed : (p : PartId) → list_any (part_eq p) c.as_slice-parts.result.now ≡ marked p = λ p. ap (list_any (part_eq p)) c.as_slice-parts.ensures.value ∙ c.in_ok-new.ensures.marked p in
    let accepts : IsSpliced (λ c. c.part) marked lists.accepted (accepted_within ms marked narrow) c.in_ok-accepted.accepted.items =
    spliced_as (λ c. c.part) c.as_slice-parts.result.now marked listed c.as_slice.result.now lists.accepted
    c.as_slice-found.result.now (accepted_within ms marked narrow) c.in_ok-accepted.accepted.items c.as_slice.ensures (c.as_slice-found.ensures ∙ c.in_ok-new.ensures.accepted) c.in_ok-accepted.ensures in
    let wait : HasWaiting (candidates_within ms marked narrow) (accepted_within ms marked narrow) c.in_ok-new.new.choice.waiting.items =
    subst (λ (cs : List Candidate). HasWaiting (candidates_within ms marked narrow) cs c.in_ok-new.new.choice.waiting.items) c.in_ok-new.ensures.accepted c.in_ok-new.ensures.waiting in
    let waits : IsSpliced (λ c. c.part) marked lists.waiting.items c.in_ok-new.new.choice.waiting.items c.in_ok-waiting.waiting.items =
    spliced_as (λ c. c.part) c.as_slice-parts.result.now marked listed c.as_slice-2.result.now lists.waiting.items
    c.as_slice-left.result.now c.in_ok-new.new.choice.waiting.items c.in_ok-waiting.waiting.items c.as_slice-2.ensures.value c.as_slice-left.ensures.value c.in_ok-waiting.ensures in
    let posts : IsSpliced (λ s. s.part) marked lists.posted.items (posted_of narrow) c.in_ok-posted.posted.items =
    spliced_with (λ s. s.part) c.as_slice-parts.result.now marked listed c.as_slice-3.result.now lists.posted.items
    c.as_slice-4.result.now (posted_of narrow) c.in_ok-posted.posted.items c.as_slice-3.ensures.value
    (λ p any. ap (items_at (λ s. s.part) p) c.as_slice-4.ensures.value ∙ c.in_ok-new.ensures.posted p (ap (list_any (part_eq p)) (sym c.as_slice-parts.ensures.value) ∙ any))
    c.in_ok-posted.ensures in
    subst (λ (cs : List Candidate). IsKnown ms n w cs c.in_ok-waiting.waiting.items c.in_ok-posted.posted.items) (sym c.from_vec.ensures)
    (known_by (record { models = ms; instances = n; view = v }) lists.accepted lists.waiting.items lists.posted.items known marked w differ
    ms n narrow refl refl narrows good c.in_ok-accepted.accepted.items c.in_ok-new.new.choice.waiting.items c.in_ok-waiting.waiting.items c.in_ok-posted.posted.items w refl
    accepts wait waits posts)
