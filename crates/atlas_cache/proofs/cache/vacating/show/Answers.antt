use Rattle.std.proofs.Common.{◌∙◌, ap, arith, sym, IfSome, Option, Some, None}
use Rattle.std.specs.Vec.{with_items}
use Rattle.std.proofs.lemmas.Option.{slice_get-get_or}
use Rattle.guillotiere.specs.declared.Rectangle.{Rectangle}
use Rattle.guillotiere.specs.Pixels.{box_of}
use Rattle.atlas_cache.specs.Vacating.{ids_on, IsRoomWithout}
use Rattle.atlas_cache.proofs.RoomLemmas.KeptPages.{page_of}
use Rattle.atlas_cache.proofs.ShownLemmas.{all-more, all-same, ids-here, lies-past, none-more, none-same, written}
use Rattle.atlas_cache.proofs.cache.vacating.show.Goals as goal

pub index_mut-requires : goal.index_mut-requires
index_mut-requires g c =
    let there = page_of c.args.rooms.now.pages c.args.entry.page c.args.entry.id
    (c.requires.on_page (sym c.is_blank.ensures ∙ c.if-is_blank.false)) in
    let many = c.requires.showing.1.many in
    omega (arith, many, there)

pub rehearse-requires-clause-showing : goal.rehearse-requires-clause-showing
rehearse-requires-clause-showing g c =
    let lies = sym c.is_blank.ensures ∙ c.if-is_blank.false in
    let there = page_of c.args.rooms.now.pages c.args.entry.page c.args.entry.id (c.requires.on_page lies) in
    let showing = c.requires.showing in
    let many = showing.1.many in
    let at = slice_get-get_or c.args.marks.now.items c.args.entry.page _ (omega (arith, there, many)) ∙
    ap Some (sym c.index_mut.ensures.value) in (
      ids_on c.args.entry.page showing.0,
      rw c.deref_mut.ensures.value (showing.1.each c.args.entry.page _ at there),
      showing.2 lies,
    )

pub returns-then-is_blank-clause-shown : goal.returns-then-is_blank-clause-shown
returns-then-is_blank-clause-shown g c = λ older was _.
    all-same c.args.rooms.now.pages c.args.marks.now.items c.args.entry older
    (lies-past _ c.args.entry (sym c.is_blank.ensures ∙ c.if-is_blank.true) c.requires.numbered) was

pub returns-then-is_blank-clause-none : goal.returns-then-is_blank-clause-none
returns-then-is_blank-clause-none g c = λ older _ _ _ none.
    none-same c.args.asked c.args.rooms.now.pages c.args.entry older
    (lies-past _ c.args.entry (sym c.is_blank.ensures ∙ c.if-is_blank.true) c.requires.numbered) none

pub returns-clause-shown : goal.returns-clause-shown
returns-clause-shown g c = λ older was fresh.
    let lies = sym c.is_blank.ensures ∙ c.if-is_blank.false in
    let there = page_of c.args.rooms.now.pages c.args.entry.page c.args.entry.id (c.requires.on_page lies) in
    let many = was.many in
    let at = slice_get-get_or c.args.marks.now.items c.args.entry.page _ (omega (arith, there, many)) ∙
    ap Some (sym c.index_mut.ensures.value) in
    let own = was.each c.args.entry.page _ at there in
    all-more c.args.rooms.now.pages c.args.marks.now.items (with_items c.index_mut.result.now c.rehearse.new.marks) c.args.entry older was
    there
    (written c.index_mut.result.now (c.rehearse.auto.marks ∙ c.deref_mut.ensures.len)
    (c.rehearse.ensures.shown (ids_on c.args.entry.page older) (rw c.deref_mut.ensures.value own) (fresh lies)))

pub returns-clause-none : goal.returns-clause-none
returns-clause-none g c = λ older was fresh nothing none.
    let lies = sym c.is_blank.ensures ∙ c.if-is_blank.false in
    let there = page_of c.args.rooms.now.pages c.args.entry.page c.args.entry.id (c.requires.on_page lies) in
    let many = was.many in
    let at = slice_get-get_or c.args.marks.now.items c.args.entry.page _ (omega (arith, there, many)) ∙
    ap Some (sym c.index_mut.ensures.value) in
    let own = was.each c.args.entry.page _ at there in
    none-more c.args.asked c.args.rooms.now.pages c.args.entry older
    (c.rehearse.ensures.none (ids_on c.args.entry.page older) (rw c.deref_mut.ensures.value own) (fresh lies) nothing
    (none c.args.entry.page)) none

pub returns-clause-room : goal.returns-clause-room
returns-clause-room g c = λ older was fresh.
    let lies = sym c.is_blank.ensures ∙ c.if-is_blank.false in
    let there = page_of c.args.rooms.now.pages c.args.entry.page c.args.entry.id (c.requires.on_page lies) in
    let many = was.many in
    let at = slice_get-get_or c.args.marks.now.items c.args.entry.page _ (omega (arith, there, many)) ∙
    ap Some (sym c.index_mut.ensures.value) in
    let own = was.each c.args.entry.page _ at there in
    ids-here (λ ids. IfSome c.rehearse.result (λ area. IsRoomWithout c.args.asked c.args.rooms.now.pages c.args.entry.page ids
    (box_of area)))
    c.args.entry older
    (c.rehearse.ensures.room (ids_on c.args.entry.page older) (rw c.deref_mut.ensures.value own) (fresh lies))

pub returns-clause-there : goal.returns-clause-there
returns-clause-there g c =
    let there = page_of c.args.rooms.now.pages c.args.entry.page c.args.entry.id
    (c.requires.on_page (sym c.is_blank.ensures ∙ c.if-is_blank.false)) in
    if_any c.rehearse.result there
  where
    if_any : (x : Option Rectangle) {A : Type 0} → A → IfSome x (λ _. A)
    if_any (Some _) a = a
    if_any None a = tt
