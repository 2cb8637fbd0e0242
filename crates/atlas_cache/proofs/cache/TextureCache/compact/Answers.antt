use Rattle.std.proofs.Common.{◌-◌, ap, arith}
use Rattle.atlas_cache.specs.Caches.{entries_of}
use Rattle.atlas_cache.specs.Vacating.{state_with}
use Rattle.atlas_cache.proofs.CompactLemmas.{chain_frames}
use Rattle.atlas_cache.proofs.CompactedLemmas.{compacted_held, compacted_told, failed_compacted, none_compacted, some_compacted}
use Rattle.atlas_cache.proofs.KeyLemmas.{own_keys}
use Rattle.atlas_cache.proofs.TrimLemmas.{none-told}
use Rattle.atlas_cache.proofs.cache.TextureCache.compact.Goals as goal

pub returns-then-pages-lt2-clause-compacts : goal.returns-then-pages-lt2-clause-compacts
returns-then-pages-lt2-clause-compacts g c =
    none_compacted c.args.pixels c.args.changes.now.items c.args.self.now
    (rw (← c.self.view_is) (omega (arith, c.if-pages-lt2.true, c.len-pages.ensures.pages)))

pub returns-then-pages-lt2-clause-told : goal.returns-then-pages-lt2-clause-told
returns-then-pages-lt2-clause-told g c = none-told g.K.PartialEq.eq c.args.changes.now.items c.args.self.now

pub returns-in_err-reserve-clause-compacts : goal.returns-in_err-reserve-clause-compacts
returns-in_err-reserve-clause-compacts g c =
    rw c.in_err-reserve.ensures.items
    (failed_compacted c.args.pixels c.from_residual.result c.args.changes.now.items c.args.self.now c.from_residual.ensures.0)

pub returns-in_err-reserve-clause-told : goal.returns-in_err-reserve-clause-told
returns-in_err-reserve-clause-told g c =
    rw c.in_err-reserve.ensures.items (none-told g.K.PartialEq.eq c.args.changes.now.items c.args.self.now)

pub invariant_of-self : goal.invariant_of-self
invariant_of-self g c =
    let m = c.visit_all.ensures.moves in
    record {
      held = c.visit_all.ensures.held;
      bordered = c.visit_all.ensures.bordered;
      frames = chain_frames (c.len-pages.result - 1) c.self.inside.frame m.moves c.self.inside.rooms.pages c.visit_all.new.rooms.pages
          (entries_of c.self.inside.entries.entries) (entries_of c.visit_all.new.entries.entries) m.chain c.self.invariant.frames;
    }

pub returns-clause-compacts : goal.returns-clause-compacts
returns-clause-compacts g c =
    let it = c.self.inside in
    let all = some_compacted (c.len-pages.result - 1) c.args.pixels c.visit_all.result c.args.changes.now.items
    c.visit_all.new.changes.items it.rooms c.visit_all.new.rooms it.entries c.visit_all.new.entries it.frame it.counts
    (ap (λ n. n - 1) c.len-pages.ensures.pages) (rw c.in_ok-reserve.ensures.items at c.visit_all.ensures.moves) in
    rw (← c.self.view_is) all

pub returns-clause-held : goal.returns-clause-held
returns-clause-held g c =
    let it = c.self.inside in
    let all = some_compacted (c.len-pages.result - 1) c.args.pixels c.visit_all.result c.args.changes.now.items
    c.visit_all.new.changes.items it.rooms c.visit_all.new.rooms it.entries c.visit_all.new.entries it.frame it.counts
    (ap (λ n. n - 1) c.len-pages.ensures.pages) (rw c.in_ok-reserve.ensures.items at c.visit_all.ensures.moves) in
    let s = state_with it.rooms it.entries it.frame it.counts in
    let t = state_with c.visit_all.new.rooms c.visit_all.new.entries it.frame it.counts in
    let own = own_keys g.K.PartialEq.eq it.entries.entries c.prove_kept.ensures.keys in
    rw (← c.self.view_is)
    (compacted_held g.K.PartialEq.eq g.met.K.Eq.laws c.args.pixels c.visit_all.result c.args.changes.now.items
    c.visit_all.new.changes.items s t own all)

pub returns-clause-told : goal.returns-clause-told
returns-clause-told g c =
    let it = c.self.inside in
    let all = some_compacted (c.len-pages.result - 1) c.args.pixels c.visit_all.result c.args.changes.now.items
    c.visit_all.new.changes.items it.rooms c.visit_all.new.rooms it.entries c.visit_all.new.entries it.frame it.counts
    (ap (λ n. n - 1) c.len-pages.ensures.pages) (rw c.in_ok-reserve.ensures.items at c.visit_all.ensures.moves) in
    let s = state_with it.rooms it.entries it.frame it.counts in
    let t = state_with c.visit_all.new.rooms c.visit_all.new.entries it.frame it.counts in
    let own = own_keys g.K.PartialEq.eq it.entries.entries c.prove_kept.ensures.keys in
    rw (← c.self.view_is)
    (compacted_told g.K.PartialEq.eq g.met.K.Eq.laws c.args.pixels c.visit_all.result c.args.changes.now.items
    c.visit_all.new.changes.items s t own all)
