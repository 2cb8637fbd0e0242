use Rattle.std.proofs.Common.{◌≡◌, ◌∙◌, Some, refl, subst, sym}
use Rattle.atlas_entries.specs.declared.entries.Entry.{Entry}
use Rattle.atlas_cache.specs.Changes.{LetsGo}
use Rattle.atlas_cache.proofs.CacheLemmas.{bordered-at}
use Rattle.atlas_cache.proofs.cache.vacating.clear_one.Goals as goal

pub place_of-place-requires : goal.place_of-place-requires
place_of-place-requires g c =
    rw c.options.ensures.options
    (bordered-at _ _ c.args.entries.now.entries c.entry-entry.result c.requires.bordered c.entry-entry.ensures)

pub returns-clause-goes : goal.returns-clause-goes
returns-clause-goes g c = λ e at inside.
    let some : Some c.entry-entry.result ≡ Some e = sym c.entry-entry.ensures ∙ at in
    let same : c.entry-entry.result ≡ e = cc in
    subst (λ (x : Entry g.row.K.Denot). LetsGo c.args.number x c.args.changes.now.items c.push_reserved.new.self.items c.args.rooms.now
    c.take_out.new.rooms c.args.entries.now c.take_out.new.entries c.args.counts.now
    (record c.args.counts.now { evictions = c.count-counts.result })) same
    (record {
      without = c.take_out.ensures.without;
      made = c.take_out.ensures.made;
      reserved = c.take_out.ensures.reserved;
      leaves = c.take_out.ensures.leaves;
      sizes = c.take_out.ensures.sizes;
      options = c.take_out.ensures.options;
      slots = c.take_out.ensures.slots;
      step = c.take_out.ensures.step;
      evicted = rw c.count-counts.ensures refl;
      listed = rw (← c.options.ensures.options, ← c.place_of-place.ensures) c.push_reserved.ensures.items;
    })
