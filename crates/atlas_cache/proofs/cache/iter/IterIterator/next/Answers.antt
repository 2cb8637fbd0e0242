use Rattle.std.proofs.Common.{◌∙◌, ap, map, sym}
use Rattle.atlas_cache.specs.Caches.{entries_of}
use Rattle.atlas_cache.specs.Walking.{keyed}
use Rattle.atlas_cache.proofs.CacheLemmas.{bordered-at}
use Rattle.atlas_cache.proofs.IterLemmas.{none-to_come, turn, turn-gives, turn-number, turn-to_come}
use Rattle.atlas_cache.proofs.cache.iter.IterIterator.next.Goals as goal

pub returns-in_default-clause-steps : goal.returns-in_default-clause-steps
returns-in_default-clause-steps g c =
    let i = c.self.inside in
    let none = none-to_come i.left i.entries.now.entries (rw c.in_default.is at c.self.invariant.0) in
    let ends = sym c.self.view_is ∙ ap (λ xs. map (keyed i.options.padding) (entries_of xs)) none in
    (ends, ends)

pub entry-entry-requires : goal.entry-entry-requires
entry-entry-requires g c =
    let i = c.self.inside in
    let to_come = rw c.in-Some.is at c.self.invariant.0 in
    turn-number c.in-Some.number i.left i.entries.now.entries (turn _ _ _ to_come) c.prove_kept.ensures.numbers

pub place_of-place-requires : goal.place_of-place-requires
place_of-place-requires g c =
    let i = c.self.inside in
    bordered-at i.options.padding c.in-Some.number i.entries.now.entries c.entry-entry.result c.self.invariant.1 c.entry-entry.ensures

pub invariant_of-self : goal.invariant_of-self
invariant_of-self g c =
    let i = c.self.inside in
    let to_come = rw c.in-Some.is at c.self.invariant.0 in (
      turn-to_come c.in-Some.number i.left i.entries.now.entries (turn _ _ _ to_come) c.older-self-inside.result
          c.older-self-inside.ensures.next,
      c.self.invariant.1,
    )

pub returns-clause-steps : goal.returns-clause-steps
returns-clause-steps g c =
    let i = c.self.inside in
    let e = c.entry-entry.result in
    let n = c.in-Some.number in
    let t = turn n i.left i.entries.now.entries (rw c.in-Some.is at c.self.invariant.0) in
    let gives = turn-gives n i.left i.entries.now.entries t i.options.padding e c.prove_kept.ensures.numbers c.entry-entry.ensures in
    rw (← c.self.view_is, c.place_of-place.ensures) gives
