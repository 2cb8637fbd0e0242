use Rattle.std.proofs.Common.{◌≡◌, ◌==◌, ◌∙◌, Some, None, ap, refl, sym, option_map}
use Rattle.std.specs.List.{find}
use Rattle.guillotiere.specs.declared.Change.{Change}
use Rattle.atlas_entries.specs.Entries.{moved, without_number}
use Rattle.atlas_cache.proofs.RelocateLemmas.{moved-at, without-at}
use Rattle.atlas_cache.proofs.cache.repacking.settle.Goals as goal

pub place_of-to-requires : goal.place_of-to-requires
place_of-to-requires g c =
    let d = c.in-Some.change in
    let named : find (λ (x : Change). x.old.id == c.args.entry.id) c.args.moves.now ≡ Some d = sym c.change_for.ensures ∙ c.in-Some.is in
    c.requires.is (record c.args.entry { id = d.new.id; rectangle = d.new.rectangle })
    (ap (option_map (λ (x : Change). record c.args.entry { id = x.new.id; rectangle = x.new.rectangle })) named)

pub move_to-requires-clause-lies : goal.move_to-requires-clause-lies
move_to-requires-clause-lies g c = rw c.requires.here refl

pub returns-in-Some-clause-settled : goal.returns-in-Some-clause-settled
returns-in-Some-clause-settled g c = λ newer older was.
    let d = c.in-Some.change in
    let named : find (λ (x : Change). x.old.id == c.args.entry.id) c.args.moves.now ≡ Some d = sym c.change_for.ensures ∙ c.in-Some.is in
    rw named
    (c.move_to.ensures.entries ∙ ap (moved c.args.number c.args.entry.page d.new.id d.new.rectangle) was
    ∙ moved-at c.args.number c.args.entry.page d.new.id d.new.rectangle c.args.entry newer older (rw was at c.prove_kept.ensures.numbers))

pub returns-in-None-clause-settled : goal.returns-in-None-clause-settled
returns-in-None-clause-settled g c = λ newer older was.
    let named : find (λ (x : Change). x.old.id == c.args.entry.id) c.args.moves.now ≡ None = sym c.change_for.ensures ∙ c.in-None.is in
    rw named
    (c.remove.ensures.entries ∙ ap (without_number c.args.number) was
    ∙ without-at c.args.number c.args.entry newer older (rw was at c.prove_kept.ensures.numbers))
