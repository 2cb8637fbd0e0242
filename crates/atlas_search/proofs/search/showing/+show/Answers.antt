use Rattle.std.proofs.Common.{true, false, map, ap, sym, subst, refl, arith}
use Rattle.std.proofs.lemmas.List.{length-map}
use Rattle.atlas_search.specs.Heaps.{members}
use Rattle.atlas_search.specs.Lookups.{HasShown}
use Rattle.atlas_search.specs.Showing.{cell_with}
use Rattle.atlas_search.proofs.SearchLemmas.Cells.{breadth, halves-of, high-less, low-less}
use Rattle.atlas_search.proofs.SearchLemmas.HeapSearches.{fork-high, fork-low, fork-split, heap-alone, heap-empty, heap-fork, heap-outside}
use Rattle.atlas_search.proofs.SearchLemmas.HeapSearches.{heap-read, heap-shown, heap-solid}
use Rattle.atlas_search.proofs.SearchLemmas.ShownItems.{shown-then}
use Rattle.atlas_search.proofs.search.showing.+show.Goals.{show_halves-else-may_fit, show_halves-then-may_fit}
use Rattle.atlas_search.proofs.search.showing.+show.Goals as goal

pub show_halves-show_within-requires : goal.show_halves-show_within-requires
show_halves-show_within-requires g t c κs within =
    let es = map g.E.Entry.item c.args.entries.now in
    let fork = g.E.Entry.item c.args.fork.now in
    let q = c.requires.fork in (
      omega (arith, c.decreases),
      (within, (_, fork-low es q.0 fork _ _ _ q.5 c.left.result.number c.left.ensures c.args.halves.low q.4.0)),
    )

pub show_halves-show_within-requires-then-may_gain_in : goal.show_halves-show_within-requires-then-may_gain_in
show_halves-show_within-requires-then-may_gain_in g t c κs within =
    let es = map g.E.Entry.item c.args.entries.now in
    let fork = g.E.Entry.item c.args.fork.now in
    let q = c.requires.fork in (
      omega (arith, c.decreases),
      (within, (_, fork-high es q.0 fork _ _ _ q.5 c.right.result.number c.right.ensures c.args.halves.high q.4.1)),
    )

pub show_halves-returns-then-may_gain_in : goal.show_halves-returns-then-may_gain_in
show_halves-returns-then-may_gain_in g t c = λ cell at l r has s.
    let es = map g.E.Entry.item c.args.entries.now in
    let fork = g.E.Entry.item c.args.fork.now in
    let low = fork-low es cell fork at l r s in
    shown-then es (members l) (members r) c.args.best.now c.if-may_fit.best c.show_within-then-may_gain_in.new.best
    (elim c.if-may_fit.branch [
      | show_halves-then-may_fit w ↦
          subst (HasShown es (members l) c.args.best.now) (sym w.best-is)
          (w.show_within.ensures l (low w.left.result.number w.left.ensures c.args.halves.low has.0))
      | show_halves-else-may_fit w ↦
          subst (HasShown es (members l) c.args.best.now) (sym w.best-is)
          (heap-outside es c.args.halves.low _ l (low _ refl c.args.halves.low has.0) c.args.best.now
          (c.requires.out w.if-may_fit.false))
    ])
    (c.show_within-then-may_gain_in.ensures r
    (fork-high es cell fork at l r s c.right.result.number c.right.ensures c.args.halves.high has.1))

pub show_halves-returns-else-may_gain_in : goal.show_halves-returns-else-may_gain_in
show_halves-returns-else-may_gain_in g t c = λ cell at l r has s.
    let es = map g.E.Entry.item c.args.entries.now in
    let fork = g.E.Entry.item c.args.fork.now in
    let low = fork-low es cell fork at l r s in
    shown-then es (members l) (members r) c.args.best.now c.if-may_fit.best c.if-may_fit.best
    (elim c.if-may_fit.branch [
      | show_halves-then-may_fit w ↦
          subst (HasShown es (members l) c.args.best.now) (sym w.best-is)
          (w.show_within.ensures l (low w.left.result.number w.left.ensures c.args.halves.low has.0))
      | show_halves-else-may_fit w ↦
          subst (HasShown es (members l) c.args.best.now) (sym w.best-is)
          (heap-outside es c.args.halves.low _ l (low _ refl c.args.halves.low has.0) c.args.best.now
          (c.requires.out w.if-may_fit.false))
    ])
    (heap-outside es c.args.halves.high _ r (fork-high es cell fork at l r s _ refl c.args.halves.high has.1) c.if-may_fit.best
    (c.may_gain_in.ensures.out c.if-may_gain_in.false))

pub show_below-show_halves-requires : goal.show_below-show_halves-requires
show_below-show_halves-requires g t c κs within =
    let es = map g.E.Entry.item c.args.entries.now in
    let fork = g.E.Entry.item c.args.fork.now in
    let cell = cell_with c.args.left c.args.right c.args.top c.args.bottom in
    let s = c.requires.3 in
    let split = fork-split es cell fork _ _ _ s in
    let halves = c.halves-halves in
    let has = halves-of cell true halves.result.low halves.result.high (sym (c.is_cut_wide.ensures.wide c.if-is_cut_wide.true))
    halves.ensures.low halves.ensures.high in (
      omega (
        arith,
        c.decreases,
        ap breadth has.0,
        ap breadth has.1,
        low-less cell s.whole.is_cell split,
        high-less cell s.whole.is_cell split,
      ),
      (within, ((cell, _, _, _, has, s), c.may_fit_by-may_fit.ensures.out)),
    )

pub show_below-returns-then-is_cut_wide : goal.show_below-returns-then-is_cut_wide
show_below-returns-then-is_cut_wide g t c = λ at l r s.
    let cell = cell_with c.args.left c.args.right c.args.top c.args.bottom in
    let halves = c.halves-halves in
    c.show_halves.ensures cell at l r
    (halves-of cell true halves.result.low halves.result.high (sym (c.is_cut_wide.ensures.wide c.if-is_cut_wide.true)) halves.ensures.low
    halves.ensures.high) s

pub show_below-show_halves-requires-else-is_cut_wide : goal.show_below-show_halves-requires-else-is_cut_wide
show_below-show_halves-requires-else-is_cut_wide g t c κs within =
    let es = map g.E.Entry.item c.args.entries.now in
    let fork = g.E.Entry.item c.args.fork.now in
    let cell = cell_with c.args.left c.args.right c.args.top c.args.bottom in
    let s = c.requires.3 in
    let split = fork-split es cell fork _ _ _ s in
    let halves = c.halves-halves-else-is_cut_wide in
    let has = halves-of cell false halves.result.low halves.result.high (sym (c.is_cut_wide.ensures.tall c.if-is_cut_wide.false))
    halves.ensures.low halves.ensures.high in (
      omega (
        arith,
        c.decreases,
        ap breadth has.0,
        ap breadth has.1,
        low-less cell s.whole.is_cell split,
        high-less cell s.whole.is_cell split,
      ),
      (within, ((cell, _, _, _, has, s), c.may_fit_by-may_fit-else-is_cut_wide.ensures.out)),
    )

pub show_below-returns-else-is_cut_wide : goal.show_below-returns-else-is_cut_wide
show_below-returns-else-is_cut_wide g t c = λ at l r s.
    let cell = cell_with c.args.left c.args.right c.args.top c.args.bottom in
    let halves = c.halves-halves-else-is_cut_wide in
    c.show_halves-else-is_cut_wide.ensures cell at l r
    (halves-of cell false halves.result.low halves.result.high (sym (c.is_cut_wide.ensures.tall c.if-is_cut_wide.false)) halves.ensures.low
    halves.ensures.high) s

pub show_within-returns-then-at-entries : goal.show_within-returns-then-at-entries
show_within-returns-then-at-entries g t c = λ h s.
    heap-empty (map g.E.Entry.item c.args.entries.now) s.up c.args.at.number h (omega (arith, s.short)) s.heap
    (omega (arith, c.if-at-entries.true, length-map c.args.entries.now g.E.Entry.item)) c.args.best.now

pub show_within-show_entry-requires : goal.show_within-show_entry-requires
show_within-show_entry-requires g t c =
    heap-solid g.E.Entry.item c.args.entries.now c.args.cell c.args.at.number c.requires.0 c.requires.1 c.if-at-entries.false
    c.index-entries-at.result c.index-entries-at.is

pub show_within-show_below-requires : goal.show_within-show_below-requires
show_within-show_below-requires g t c κs within = (
  omega (arith, c.decreases),
  (
    within,
    (
      _,
      _,
      _,
      heap-fork g.E.Entry.item c.args.entries.now c.args.cell c.args.at.number c.requires.0 c.requires.1 c.if-at-entries.false
          c.index-entries-at.result c.index-entries-at.is (c.show_entry.ensures.fork c.if-show_entry.true).0,
    ),
  ),
)

pub show_within-returns-then-show_entry : goal.show_within-returns-then-show_entry
show_within-returns-then-show_entry g t c = λ h s q.
    let item = g.E.Entry.item in
    let xs = c.args.entries.now in
    let x = c.index-entries-at.result in
    let f = c.show_entry.ensures.fork c.if-show_entry.true in
    heap-shown item xs c.args.cell c.args.at.number h s c.if-at-entries.false x c.index-entries-at.is q
    c.args.best.now c.show_entry.new.best c.show_below.new.best
    (f.1 (map item xs) (heap-read item xs c.args.cell c.args.at.number h s c.if-at-entries.false x c.index-entries-at.is) q)
    (c.show_below.ensures _ _ _
    (heap-fork item xs c.args.cell c.args.at.number h s c.if-at-entries.false x c.index-entries-at.is f.0))

pub show_within-returns-else-show_entry : goal.show_within-returns-else-show_entry
show_within-returns-else-show_entry g t c = λ h s.
    heap-alone g.E.Entry.item c.args.entries.now c.args.cell c.args.at.number h s c.if-at-entries.false c.index-entries-at.result
    c.index-entries-at.is
    c.args.best.now c.show_entry.new.best
    (c.show_entry.ensures.all c.if-show_entry.false (map g.E.Entry.item c.args.entries.now)
    (heap-read g.E.Entry.item c.args.entries.now c.args.cell c.args.at.number h s c.if-at-entries.false c.index-entries-at.result
    c.index-entries-at.is))
