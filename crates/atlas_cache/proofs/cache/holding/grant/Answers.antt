use Rattle.std.proofs.Common.{◌≡◌, false, ap, arith, rules, Err}
use Rattle.std.proofs.lemmas.Bool.{ne_eqb}
use Rattle.guillotiere.proofs.Callers.{pages_given_back}
use Rattle.atlas_cache.specs.Caches.{entries_of}
use Rattle.atlas_entries.specs.Entries.{is_blank, lying, no_page}
use Rattle.atlas_entries.specs.declared.entries.Entry.{Entry}
use Rattle.atlas_cache.proofs.HoldingLemmas.{joined, stays}
use Rattle.atlas_cache.proofs.ReadyLemmas.{error_is}
use Rattle.atlas_cache.proofs.RoomLemmas.PageReserves.{both_used}
use Rattle.atlas_cache.proofs.cache.holding.grant.Goals as goal

pub returns-in-Ok-clause-held : goal.returns-in-Ok-clause-held
returns-in-Ok-clause-held g c =
    let placed = rw c.in-Some.is at c.in_ok-page.ensures.placed in
    let entry : Entry g.row.K.Denot = record {
      key = c.args.key;
      size = c.args.size;
      page = c.in-Some.page;
      id = c.in-Some.granted.id;
      rectangle = c.in-Some.granted.rectangle;
      number = c.in-Ok.number;
      frame = c.args.frame;
    } in
    let lies : is_blank entry ≡ false = ne_eqb c.in-Some.page no_page (λ q. omega (arith, q, placed.numbered)) in
    rw (c.in-Ok.ensures.joined, lies)
    (joined c.args.rooms.now.pages c.place_among.new.self.pages entry placed.adds (lying (entries_of c.args.entries.now.entries))
    c.requires.held)

pub returns-in-Ok-clause-lies : goal.returns-in-Ok-clause-lies
returns-in-Ok-clause-lies g c =
    let placed = rw c.in-Some.is at c.in_ok-page.ensures.placed in ne_eqb c.in-Some.page no_page (λ q. omega (arith, q, placed.numbered))

pub returns-in-Err-clause-held : goal.returns-in-Err-clause-held
returns-in-Err-clause-held g c =
    let placed = rw c.in-Some.is at c.in_ok-page.ensures.placed in
    rw c.in-Err.ensures.refused
    (stays c.args.rooms.now.pages c.free.new.self.pages
    (pages_given_back _ _ _ _ _ _ placed.adds c.free.ensures.leaves) (lying (entries_of c.args.entries.now.entries)) c.requires.held)

pub returns-in-Err-clause-refused : goal.returns-in-Err-clause-refused
returns-in-Err-clause-refused g c =
    let placed = rw c.in-Some.is at c.in_ok-page.ensures.placed in
    (pages_given_back _ _ _ _ _ _ placed.adds c.free.ensures.leaves, c.in-Err.ensures.refused)

pub returns-in-Err-clause-slots : goal.returns-in-Err-clause-slots
returns-in-Err-clause-slots g c =
    both_used 4 0 4 c.args.rooms.now.pages c.place_among.new.self.pages c.free.new.self.pages (omega arith) c.place_among.ensures.slots
    c.free.ensures.slots

pub returns-in_err-page-clause-short : goal.returns-in_err-page-clause-short
returns-in_err-page-clause-short g c = λ is.
    let same : c.from_residual.result ≡ Err c.in_err-page.field-0.0 = search rules in
    let stays : c.place_among.new.self ≡ c.args.rooms.now = c.in_err-page.ensures.refused in
    rw stays (c.in_err-page.ensures.short (ap Err (error_is c.in_err-page.field-0.0 c.from_residual.result same is)))

pub returns-in_err-page-clause-already : goal.returns-in_err-page-clause-already
returns-in_err-page-clause-already g c = λ is.
    let same : c.from_residual.result ≡ Err c.in_err-page.field-0.0 = search rules in
    c.in_err-page.ensures.short (ap Err (error_is c.in_err-page.field-0.0 c.from_residual.result same is))

pub returns-in_err-page-clause-lacks : goal.returns-in_err-page-clause-lacks
returns-in_err-page-clause-lacks g c = λ is.
    let same : c.from_residual.result ≡ Err c.in_err-page.field-0.0 = search rules in
    let stays : c.place_among.new.self ≡ c.args.rooms.now = c.in_err-page.ensures.refused in
    rw stays (c.in_err-page.ensures.lacks (ap Err (error_is c.in_err-page.field-0.0 c.from_residual.result same is)))
