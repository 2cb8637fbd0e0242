use Rattle.std.proofs.Common.{map, ap, refl, sym, ◌∙◌, subst, inl, inr}
use Rattle.atlas_search.specs.declared.link.Link.{Link}
use Rattle.atlas_search.specs.HeapCalls.{HasLeft}
use Rattle.atlas_search.proofs.HeapLemmas.Leaving.{IsNext, first-solid, first-within, heaps-of, heaps-turned, leaves-alike}
use Rattle.atlas_search.proofs.HeapLemmas.Leaving.{leaves-none, next-is, next-none, next-right}
use Rattle.atlas_search.proofs.heap.leaving.leave_some.Goals.{then-is_left, else-is_left}
use Rattle.atlas_search.proofs.heap.leaving.leave_some.Goals as goal

pub returns-then-not-is_fork-clause-left : goal.returns-then-not-is_fork-clause-left
returns-then-not-is_fork-clause-left g c left right a =
    let es = map g.E.Entry.item c.args.entries.now in
    leaves-alike es (map g.E.Entry.item c.close.new.entries) c.args.at.number c.args.up.number c.close.result.number left right
    (sym c.is_fork.ensures ∙ c.if-not-is_fork.true) (c.close.ensures.melded left right a) c.close.ensures.areas

pub is_left_first-is_left-requires-clause-left : goal.is_left_first-is_left-requires-clause-left
is_left_first-is_left-requires-clause-left g c = λ some.
    let q = c.requires in
    let es = map g.E.Entry.item c.args.entries.now in
    let at = c.args.at.number in
    let k = c.links_at-links in
    let x = k.result.left.number in
    let y = k.result.right.number in
    let isf = sym c.is_fork.ensures ∙ c.if-not-is_fork.false in
    first-within g.E.Entry.item c.args.entries.now c.args.entries.now at x y q.0 q.1
    (heaps-of es at x y q.0 q.1 q.2 isf k.ensures.left k.ensures.right) some refl

pub is_left_first-is_left-requires-clause-right : goal.is_left_first-is_left-requires-clause-right
is_left_first-is_left-requires-clause-right g c = λ some.
    let q = c.requires in
    let es = map g.E.Entry.item c.args.entries.now in
    let at = c.args.at.number in
    let k = c.links_at-links in
    let x = k.result.left.number in
    let y = k.result.right.number in
    let isf = sym c.is_fork.ensures ∙ c.if-not-is_fork.false in
    first-within g.E.Entry.item c.args.entries.now c.args.entries.now at y x q.1 q.0
    (heaps-turned es at x y q.0 q.1 (heaps-of es at x y q.0 q.1 q.2 isf k.ensures.left k.ensures.right)) some refl

pub is_left_first-is_left-requires-clause-left_solid : goal.is_left_first-is_left-requires-clause-left_solid
is_left_first-is_left-requires-clause-left_solid g c = λ some.
    let q = c.requires in
    let es = map g.E.Entry.item c.args.entries.now in
    let at = c.args.at.number in
    let k = c.links_at-links in
    let x = k.result.left.number in
    let y = k.result.right.number in
    let isf = sym c.is_fork.ensures ∙ c.if-not-is_fork.false in
    first-solid es at x y q.0 q.1 (heaps-of es at x y q.0 q.1 q.2 isf k.ensures.left k.ensures.right) some

pub is_left_first-is_left-requires-clause-right_solid : goal.is_left_first-is_left-requires-clause-right_solid
is_left_first-is_left-requires-clause-right_solid g c = λ some.
    let q = c.requires in
    let es = map g.E.Entry.item c.args.entries.now in
    let at = c.args.at.number in
    let k = c.links_at-links in
    let x = k.result.left.number in
    let y = k.result.right.number in
    let isf = sym c.is_fork.ensures ∙ c.if-not-is_fork.false in
    first-solid es at y x q.1 q.0
    (heaps-turned es at x y q.0 q.1 (heaps-of es at x y q.0 q.1 q.2 isf k.ensures.left k.ensures.right)) some

pub lift-requires : goal.lift-requires
lift-requires g c =
    let q = c.requires in
    let es = map g.E.Entry.item c.args.entries.now in
    let at = c.args.at.number in
    let k = c.links_at-links in
    let x = k.result.left.number in
    let y = k.result.right.number in
    let isf = sym c.is_fork.ensures ∙ c.if-not-is_fork.false in
    let f = c.is_left_first-is_left in
    let next : IsNext f.result x y c.if-is_left.first.number = elim c.if-is_left.branch [
      | then-is_left u ↦ inl (u.if-is_left.true, ap (λ (v : Link). v.number) u.first-is)
      | else-is_left u ↦ inr (u.if-is_left.false, ap (λ (v : Link). v.number) u.first-is)
    ] in
    record {
      heaps = (at, q.0, q.1, heaps-of es at x y q.0 q.1 q.2 isf k.ensures.left k.ensures.right);
      left = λ e. (f.ensures.some e, f.ensures.left e);
      right = λ e. (next-right f.result x y c.if-is_left.first.number next c.if-first.true e, λ l. (f.ensures.right e l).1);
    }

pub returns-then-first-clause-left : goal.returns-then-first-clause-left
returns-then-first-clause-left g c left right a =
    let es = map g.E.Entry.item c.args.entries.now in
    let fs = map g.E.Entry.item c.lift.new.entries in
    let at = c.args.at.number in
    let k = c.links_at-links in
    let x = k.result.left.number in
    let y = k.result.right.number in
    let isf = sym c.is_fork.ensures ∙ c.if-not-is_fork.false in
    let f = c.is_left_first-is_left in
    let next : IsNext f.result x y c.if-is_left.first.number = elim c.if-is_left.branch [
      | then-is_left u ↦ inl (u.if-is_left.true, ap (λ (v : Link). v.number) u.first-is)
      | else-is_left u ↦ inr (u.if-is_left.false, ap (λ (v : Link). v.number) u.first-is)
    ] in
    subst (λ n. HasLeft es fs c.args.up.number n at left right) (sym (next-is f.result x y c.if-is_left.first.number next))
    (c.lift.ensures.lifted at left right (heaps-of es at x y left right a isf k.ensures.left k.ensures.right))

pub returns-else-first-clause-left : goal.returns-else-first-clause-left
returns-else-first-clause-left g c left right a =
    let es = map g.E.Entry.item c.args.entries.now in
    let at = c.args.at.number in
    let k = c.links_at-links in
    let x = k.result.left.number in
    let y = k.result.right.number in
    let isf = sym c.is_fork.ensures ∙ c.if-not-is_fork.false in
    let f = c.is_left_first-is_left in
    let next : IsNext f.result x y c.if-is_left.first.number = elim c.if-is_left.branch [
      | then-is_left u ↦ inl (u.if-is_left.true, ap (λ (v : Link). v.number) u.first-is)
      | else-is_left u ↦ inr (u.if-is_left.false, ap (λ (v : Link). v.number) u.first-is)
    ] in
    let none = next-none f.result x y c.if-is_left.first.number next f.ensures.some (λ e l. (f.ensures.right e l).0) c.if-first.false in
    let of = heaps-of es at x y left right a isf k.ensures.left k.ensures.right in
    leaves-none es at x y c.args.up.number c.if-is_left.first.number left right of.short of.low of.high none.0 none.1 c.if-first.false
