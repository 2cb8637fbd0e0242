use Rattle.std.proofs.Common.{◌≡◌, ◌∙◌, None, Some, false, arith, pos, sym}
use Rattle.std.proofs.lemmas.Option.{slice_get_past}
use Rattle.std.proofs.lemmas.Bool.{ne_eqb}
use Rattle.atlas_cache.specs.Caches.{entries_of}
use Rattle.atlas_entries.specs.Entries.{is_blank, no_page, without_number}
use Rattle.atlas_cache.proofs.CacheLemmas.{number-at, rectangle-live, rest_held, rest_off}
use Rattle.atlas_cache.proofs.ListLemmas.{parts}
use Rattle.atlas_cache.proofs.RoomLemmas.PageReserves.{none_used}
use Rattle.atlas_cache.proofs.cache.holding.take_out.Goals as goal
use Rattle.guillotiere.proofs.Callers.{leaves_off_pages}

pub remove-requires : goal.remove-requires
remove-requires g c = number-at c.args.number c.args.entries.now.entries c.args.entry c.requires.here

pub free-requires : goal.free-requires
free-requires g c =
    let lies : is_blank c.args.entry ≡ false =
    ne_eqb c.args.entry.page no_page (λ q. omega (arith, q, c.if-entry-len.true, c.len.ensures.numbered)) in
    rectangle-live c.args.rooms.now.pages c.args.number c.args.entries.now.entries c.args.entry c.requires.held c.requires.here lies

pub returns-then-entry-len-clause-held : goal.returns-then-entry-len-clause-held
returns-then-entry-len-clause-held g c =
    let p = parts c.args.number c.args.entries.now.entries c.args.entry c.requires.here in
    let lies : is_blank c.args.entry ≡ false =
    ne_eqb c.args.entry.page no_page (λ q. omega (arith, q, c.if-entry-len.true, c.len.ensures.numbered)) in
    rw c.remove.ensures.entries
    (rest_held c.args.rooms.now.pages (pos 0) 0 c.args.entry (entries_of c.args.entries.now.entries)
    (entries_of (without_number c.args.number c.args.entries.now.entries)) p c.free.new.self.pages c.requires.held lies
    c.free.ensures.leaves)

pub returns-else-entry-len-clause-held : goal.returns-else-entry-len-clause-held
returns-else-entry-len-clause-held g c =
    let p = parts c.args.number c.args.entries.now.entries c.args.entry c.requires.here in
    rw c.remove.ensures.entries
    (rest_off c.args.rooms.now.pages (pos 0) 0 c.args.entry (entries_of c.args.entries.now.entries)
    (entries_of (without_number c.args.number c.args.entries.now.entries)) p c.requires.held
    (omega (arith, c.if-entry-len.false, c.len.ensures.pages)))

pub returns-else-entry-len-clause-leaves : goal.returns-else-entry-len-clause-leaves
returns-else-entry-len-clause-leaves g c =
    leaves_off_pages c.args.rooms.now.pages c.args.entry.page c.args.entry.id (omega (arith, c.if-entry-len.false, c.len.ensures.pages))

pub returns-else-entry-len-clause-slots : goal.returns-else-entry-len-clause-slots
returns-else-entry-len-clause-slots g c = none_used 0 c.args.rooms.now.pages

pub returns-else-entry-len-clause-step : goal.returns-else-entry-len-clause-step
returns-else-entry-len-clause-step g c = λ s t was now.
    let none : None ≡ Some s = sym (slice_get_past c.args.rooms.now.pages c.args.entry.page
    (omega (arith, c.if-entry-len.false, c.len.ensures.pages))) ∙ was in
    absurd (cc)
