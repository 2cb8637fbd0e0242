use Rattle.std.proofs.Common.{◌≡◌, ◌∙◌, false, ap, arith, inl, inr, refl, subst, sym, Ok, Some}
use Rattle.std.proofs.lemmas.Bool.{ne_eqb}
use Rattle.guillotiere.specs.Boxes.{box_sides}
use Rattle.guillotiere.specs.Choice.{rounded}
use Rattle.guillotiere.specs.Pages.{rectangle_on, LeavesNoBoxOn, NoneHasRoomBelow}
use Rattle.guillotiere.specs.Pixels.{box_of, options_of}
use Rattle.atlas_cache.specs.Caches.{entries_of, IsBordered}
use Rattle.atlas_cache.specs.Compacting.{size_on_page}
use Rattle.atlas_entries.specs.declared.entries.Entry.{Entry}
use Rattle.atlas_entries.specs.Entries.{is_blank, no_page, moved as with_place}
use Rattle.atlas_cache.proofs.CacheLemmas.{bordered-at, live-at}
use Rattle.atlas_cache.proofs.CompactLemmas.{each_moved, moved_bordered, moved_held, replaced}
use Rattle.atlas_cache.proofs.RoomLemmas.GrantedRoom.{grants_alike, live_rounded, none_alike, none_freed, none_granted}
use Rattle.atlas_cache.proofs.RoomLemmas.PageReserves.{both_used}
use Rattle.atlas_cache.proofs.cache.compacting.visit.Goals as goal

pub size_of_box-asked-requires : goal.size_of_box-asked-requires
size_of_box-asked-requires g c =
    let e = c.entry-entry.result in
    let lies : is_blank e ≡ false =
    ne_eqb e.page no_page (λ q. omega (arith, q, c.if-entry-last.false, c.requires.last, c.prove_pages.ensures.numbered)) in
    let own = bordered-at c.args.rooms.now.options.padding c.args.number c.args.entries.now.entries e c.requires.bordered
    c.entry-entry.ensures in
    (own.large lies).exact

pub returns-in_err-page-clause-none : goal.returns-in_err-page-clause-none
returns-in_err-page-clause-none g c = λ request none.
    let stays : c.place_before.new.self ≡ c.args.rooms.now = c.in_err-page.ensures.refused in
    rw stays none

pub returns-in_default-clause-visits : goal.returns-in_default-clause-visits
returns-in_default-clause-visits g c =
    let full = c.in_ok-page.ensures.full (ap Ok c.in_default.is) in
    let e = c.entry-entry.result in
    let pages = c.args.rooms.now.pages in
    inr (record {
      none = refl;
      stays = λ x at here.
          let one : Some e ≡ Some x = sym c.entry-entry.ensures ∙ at in
          let same : e ≡ x = cc in
          inr (subst (λ (y : Entry g.row.K.Denot). NoneHasRoomBelow (size_on_page y) pages c.args.last) same
          (none_alike c.size_of_box-asked.result (size_on_page e) c.size_of_box-asked.ensures pages c.args.last full));
      same_rooms = c.in_ok-page.ensures.none (ap Ok c.in_default.is);
      same_entries = refl;
      listed = refl;
    })

pub returns-in_default-clause-none : goal.returns-in_default-clause-none
returns-in_default-clause-none g c = λ request none.
    let stays : c.place_before.new.self ≡ c.args.rooms.now = c.in_ok-page.ensures.none (ap Ok c.in_default.is) in
    rw stays none

pub free-requires : goal.free-requires
free-requires g c =
    let e = c.entry-entry.result in
    let lies : is_blank e ≡ false =
    ne_eqb e.page no_page (λ q. omega (arith, q, c.if-entry-last.false, c.requires.last, c.prove_pages.ensures.numbered)) in
    let placed = rw c.in-Some.is at c.in_ok-page.ensures.placed in
    let before = rw c.in-Some.is at c.in_ok-page.ensures.before in
    let live = live-at c.args.rooms.now.pages c.args.number c.args.entries.now.entries e c.requires.held c.entry-entry.ensures lies in
    let there : rectangle_on c.args.rooms.now.pages c.args.last e.id ≡ Some e.rectangle =
    subst (λ p. rectangle_on c.args.rooms.now.pages p e.id ≡ Some e.rectangle) c.if-entry-last.false live in
    let same = placed.adds.same c.args.last e.id (λ q. absurd (omega (arith, q, before))) in
    rw (same, there) refl

pub place_of-from-requires : goal.place_of-from-requires
place_of-from-requires g c =
    let e = c.entry-entry.result in
    let own = bordered-at c.args.rooms.now.options.padding c.args.number c.args.entries.now.entries e c.requires.bordered
    c.entry-entry.ensures in
    rw (c.options.ensures.options, c.free.ensures.options, c.place_before.ensures.options) own

pub place_of-to-requires : goal.place_of-to-requires
place_of-to-requires g c =
    let e = c.entry-entry.result in
    let lies : is_blank e ≡ false =
    ne_eqb e.page no_page (λ q. omega (arith, q, c.if-entry-last.false, c.requires.last, c.prove_pages.ensures.numbered)) in
    let own = bordered-at c.args.rooms.now.options.padding c.args.number c.args.entries.now.entries e c.requires.bordered
    c.entry-entry.ensures in
    let placed = rw c.in-Some.is at c.in_ok-page.ensures.placed in
    let live = live-at c.args.rooms.now.pages c.args.number c.args.entries.now.entries e c.requires.held c.entry-entry.ensures lies in
    let there : rectangle_on c.args.rooms.now.pages c.args.last e.id ≡ Some e.rectangle =
    subst (λ p. rectangle_on c.args.rooms.now.pages p e.id ≡ Some e.rectangle) c.if-entry-last.false live in
    let f : Entry g.row.K.Denot = record e {
      page = c.in-Some.page;
      id = c.in-Some.granted.id;
      rectangle = c.in-Some.granted.rectangle;
    } in
    let lies_f : is_blank f ≡ false = ne_eqb c.in-Some.page no_page (λ q. omega (arith, q, placed.numbered)) in
    let sides : box_sides (box_of f.rectangle) ≡ box_sides (box_of e.rectangle) =
    placed.sides ∙ ap (rounded (options_of c.args.rooms.now.options.atlas)) c.size_of_box-asked.ensures
    ∙ live_rounded c.args.rooms.now c.args.last e.id e.rectangle c.prove_pages.ensures.kept there in
    rw (c.options-2.ensures.options, c.free.ensures.options, c.place_before.ensures.options)
    (moved_bordered c.args.rooms.now.options.padding e f refl lies lies_f placed.large.exact sides own)

pub returns-clause-visits : goal.returns-clause-visits
returns-clause-visits g c =
    let e = c.entry-entry.result in
    let lies : is_blank e ≡ false =
    ne_eqb e.page no_page (λ q. omega (arith, q, c.if-entry-last.false, c.requires.last, c.prove_pages.ensures.numbered)) in
    let placed = rw c.in-Some.is at c.in_ok-page.ensures.placed in
    let before = rw c.in-Some.is at c.in_ok-page.ensures.before in
    let live = live-at c.args.rooms.now.pages c.args.number c.args.entries.now.entries e c.requires.held c.entry-entry.ensures lies in
    let there : rectangle_on c.args.rooms.now.pages c.args.last e.id ≡ Some e.rectangle =
    subst (λ p. rectangle_on c.args.rooms.now.pages p e.id ≡ Some e.rectangle) c.if-entry-last.false live in
    let f : Entry g.row.K.Denot = record e {
      page = c.in-Some.page;
      id = c.in-Some.granted.id;
      rectangle = c.in-Some.granted.rectangle;
    } in
    let lies_f : is_blank f ≡ false = ne_eqb c.in-Some.page no_page (λ q. omega (arith, q, placed.numbered)) in
    let sides : box_sides (box_of f.rectangle) ≡ box_sides (box_of e.rectangle) =
    placed.sides ∙ ap (rounded (options_of c.args.rooms.now.options.atlas)) c.size_of_box-asked.ensures
    ∙ live_rounded c.args.rooms.now c.args.last e.id e.rectangle c.prove_pages.ensures.kept there in
    let r = replaced c.args.number c.in-Some.page c.in-Some.granted.id c.in-Some.granted.rectangle c.args.entries.now.entries e
    c.entry-entry.ensures in
    let pages = c.args.rooms.now.pages in
    let mid = c.place_before.new.self.pages in
    let asked = c.size_of_box-asked.result in
    inl (record {
      entry = e;
      moved = f;
      at = c.entry-entry.ensures;
      is = c.move_to.ensures.entries;
      moves = rw c.move_to.ensures.entries (record {
        newer = r.newer;
        older = r.older;
        was = r.was;
        is = r.is;
        same = refl;
        sides = sides;
        here = c.if-entry-last.false;
        before = before;
        first = none_alike asked (size_on_page e) c.size_of_box-asked.ensures pages c.in-Some.page placed.first;
        granted = mid;
        grants = grants_alike asked (size_on_page e) c.size_of_box-asked.ensures pages mid c.in-Some.page c.in-Some.granted placed.step;
        adds = placed.adds;
        frees = c.free.ensures.step;
        leaves = c.free.ensures.leaves;
        sizes = c.free.ensures.sizes ∙ c.place_before.ensures.sizes;
        slots = both_used 4 0 4 pages mid c.free.new.self.pages (omega arith) c.place_before.ensures.slots c.free.ensures.slots;
      });
      pixels = c.area_of-pixels.ensures;
      within = c.if-pixels-left.false;
      listed = rw (
        c.place_of-from.ensures,
        c.place_of-to.ensures,
        c.options.ensures.options,
        c.options-2.ensures.options,
        c.free.ensures.options,
        c.place_before.ensures.options,
      ) at c.push_reserved.ensures.items;
      options = c.free.ensures.options ∙ c.place_before.ensures.options;
      made = c.move_to.ensures.made;
      reserved = c.move_to.ensures.reserved;
    })

pub returns-clause-none : goal.returns-clause-none
returns-clause-none g c = λ request none.
    let placed = rw c.in-Some.is at c.in_ok-page.ensures.placed in
    let mid = c.place_before.new.self.pages in
    none_freed mid c.free.new.self.pages c.args.last c.free.ensures.leaves.others request
    (none_granted c.args.rooms.now.pages mid c.in-Some.page c.size_of_box-asked.result c.in-Some.granted placed.there
    (λ k s at. (c.prove_pages.ensures.kept.each k s at).sound) (λ k s at. (c.prove_pages-2.ensures.kept.each k s at).sound) placed.step
    placed.adds.others request c.args.last none)

pub returns-clause-held : goal.returns-clause-held
returns-clause-held g c =
    let e = c.entry-entry.result in
    let lies : is_blank e ≡ false =
    ne_eqb e.page no_page (λ q. omega (arith, q, c.if-entry-last.false, c.requires.last, c.prove_pages.ensures.numbered)) in
    let placed = rw c.in-Some.is at c.in_ok-page.ensures.placed in
    let f : Entry g.row.K.Denot = record e {
      page = c.in-Some.page;
      id = c.in-Some.granted.id;
      rectangle = c.in-Some.granted.rectangle;
    } in
    let lies_f : is_blank f ≡ false = ne_eqb c.in-Some.page no_page (λ q. omega (arith, q, placed.numbered)) in
    let r = replaced c.args.number c.in-Some.page c.in-Some.granted.id c.in-Some.granted.rectangle c.args.entries.now.entries e
    c.entry-entry.ensures in
    let mid = c.place_before.new.self.pages in
    let leaves = subst (λ p. LeavesNoBoxOn mid c.free.new.self.pages p e.id) (sym c.if-entry-last.false) c.free.ensures.leaves in
    let es = c.args.entries.now.entries in
    rw c.move_to.ensures.entries
    (moved_held c.args.rooms.now.pages mid c.free.new.self.pages e f (entries_of es)
    (entries_of (with_place c.args.number c.in-Some.page c.in-Some.granted.id c.in-Some.granted.rectangle es)) r lies lies_f placed.adds
    leaves c.requires.held)

pub returns-clause-bordered : goal.returns-clause-bordered
returns-clause-bordered g c =
    let e = c.entry-entry.result in
    let lies : is_blank e ≡ false =
    ne_eqb e.page no_page (λ q. omega (arith, q, c.if-entry-last.false, c.requires.last, c.prove_pages.ensures.numbered)) in
    let own = bordered-at c.args.rooms.now.options.padding c.args.number c.args.entries.now.entries e c.requires.bordered
    c.entry-entry.ensures in
    let placed = rw c.in-Some.is at c.in_ok-page.ensures.placed in
    let live = live-at c.args.rooms.now.pages c.args.number c.args.entries.now.entries e c.requires.held c.entry-entry.ensures lies in
    let there : rectangle_on c.args.rooms.now.pages c.args.last e.id ≡ Some e.rectangle =
    subst (λ p. rectangle_on c.args.rooms.now.pages p e.id ≡ Some e.rectangle) c.if-entry-last.false live in
    let f : Entry g.row.K.Denot = record e {
      page = c.in-Some.page;
      id = c.in-Some.granted.id;
      rectangle = c.in-Some.granted.rectangle;
    } in
    let lies_f : is_blank f ≡ false = ne_eqb c.in-Some.page no_page (λ q. omega (arith, q, placed.numbered)) in
    let sides : box_sides (box_of f.rectangle) ≡ box_sides (box_of e.rectangle) =
    placed.sides ∙ ap (rounded (options_of c.args.rooms.now.options.atlas)) c.size_of_box-asked.ensures
    ∙ live_rounded c.args.rooms.now c.args.last e.id e.rectangle c.prove_pages.ensures.kept there in
    let r = replaced c.args.number c.in-Some.page c.in-Some.granted.id c.in-Some.granted.rectangle c.args.entries.now.entries e
    c.entry-entry.ensures in
    let padding = c.args.rooms.now.options.padding in
    rw (c.move_to.ensures.entries, r.is, c.free.ensures.options, c.place_before.ensures.options)
    (each_moved (IsBordered padding) r.newer e f r.older (rw r.was at c.requires.bordered)
    (moved_bordered padding e f refl lies lies_f placed.large.exact sides own))
