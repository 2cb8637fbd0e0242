use Rattle.std.proofs.Common.{arith, rules, ◌≡◌, ◌∙◌, length, replicate, All, IsNone, IsSome, None, ap, subst, sym}
use Rattle.atlas_sheet.specs.declared.ways.TheConstants.{WAYS}
use Rattle.atlas_sheet.specs.Paging.{IsPage, holes, put_on, sprites_left}
use Rattle.atlas_sheet.specs.Settings.{CanPack, spacing_of}
use Rattle.atlas_sheet.specs.Sheets.{IsPackable}
use Rattle.atlas_sheet.proofs.PageFinds.{begun_with, can_pack_left, count_as_given, empty_left, fewer_left, left_holes, left_packable}
use Rattle.atlas_sheet.proofs.PageFinds.{left_with, more_pages, none_as_given, none_left, page_as_given, put_as_long, some_left}
use Rattle.atlas_sheet.proofs.paging.paged.Goals as goal

pub loop-left-init : goal.loop-left-init
loop-left-init g c =
    let sprites = c.args.sprites.now in
    let bare : c.in_ok-places.places.items ≡ replicate (length sprites) None = c.in_ok-places.ensures.items_if_clones_equal
    (λ y is. search (rules, is)) in
    record {
      are = begun_with sprites c.in_ok-left.left.items c.in_ok-places.places.items bare (IsPage WAYS c.args.options.now)
          c.new-sizes.result.items c.new-sizes.ensures.items;
      left = left_with sprites c.in_ok-left.left.items c.in_ok-places.places.items bare c.in_ok-left.ensures.items;
    }

pub next_page-requires : goal.next_page-requires
next_page-requires g c =
    let before = c.loop-left.invariant in
    subst (CanPack c.args.options.now) (sym c.deref.ensures.value)
    (can_pack_left c.args.sprites.now c.loop-left.left.items c.loop-left.places.items before.are.long before.left c.args.options.now
    c.requires)

pub returns-then-is_bare-clause-none : goal.returns-then-is_bare-clause-none
returns-then-is_bare-clause-none g c =
    let before = c.loop-left.invariant in
    let sprites = c.args.sprites.now in
    let left = c.loop-left.left in
    let a = c.in_ok-next.next in
    let p = c.in_ok-page.page in
    let bare : All IsNone c.deref-in-loop-left-2.result.now = search (rules, c.is_bare.ensures, c.if-is_bare.true) in
    none_as_given WAYS c.args.options.now left.items c.deref.result.now c.deref-in-loop-left.result.now c.deref.ensures.value
    c.deref-in-loop-left.ensures.value p.size a.size c.in_ok-page.ensures.size p.order.items p.places.items a.places.items
    c.in_ok-page.ensures.shown c.in_ok-page.ensures.areas c.in_ok-next.ensures.kind sprites c.loop-left.places.items (omega arith)
    before.left
    (some_left left.len left.items c.is_empty.result left.ok.0 c.is_empty.ensures c.loop-left-test.true)
    (left_packable sprites left.items c.loop-left.places.items before.are.long before.left (IsPackable (spacing_of c.args.options.now))
    c.requires.placing.packable)
    (subst (All IsNone) c.deref-in-loop-left-2.ensures.value bare)

pub put_on-requires : goal.put_on-requires
put_on-requires g c =
    let before = c.loop-left.invariant in
    let left = c.loop-left.left.items in
    let a = c.in_ok-next.next in
    let p = c.in_ok-page.page in
    let count : length p.places.items ≡ length left =
    count_as_given WAYS c.args.options.now left c.deref.result.now c.deref-in-loop-left.result.now c.deref.ensures.value
    c.deref-in-loop-left.ensures.value p.size a.size c.in_ok-page.ensures.size p.order.items p.places.items a.places.items
    c.in_ok-page.ensures.shown c.in_ok-page.ensures.areas c.in_ok-next.ensures.kind in
    ap length c.deref-in-loop-left-4.ensures.value ∙ count
    ∙ left_holes c.args.sprites.now left c.loop-left.places.items before.are.long before.left
    ∙ ap holes (sym c.deref-in-loop-left-3.ensures.value)

pub sprites_left-requires : goal.sprites_left-requires
sprites_left-requires g c =
    let before = c.loop-left.invariant in
    let left = c.loop-left.left.items in
    let places = c.loop-left.places.items in
    let a = c.in_ok-next.next in
    let p = c.in_ok-page.page in
    let count : length p.places.items ≡ length left =
    count_as_given WAYS c.args.options.now left c.deref.result.now c.deref-in-loop-left.result.now c.deref.ensures.value
    c.deref-in-loop-left.ensures.value p.size a.size c.in_ok-page.ensures.size p.order.items p.places.items a.places.items
    c.in_ok-page.ensures.shown c.in_ok-page.ensures.areas c.in_ok-next.ensures.kind in
    let put : c.in_ok-places-2.places.items ≡ put_on c.len.result places p.places.items =
    c.in_ok-places-2.ensures.places ∙ ap (λ ps. put_on c.len.result ps c.deref-in-loop-left-4.result.now)
    c.deref-in-loop-left-3.ensures.value
    ∙ ap (put_on c.len.result places) c.deref-in-loop-left-4.ensures.value in
    ap length c.deref-in-loop-left-5.ensures.value
    ∙ put_as_long c.args.sprites.now left places before.are.long before.left c.len.result p.places.items count c.in_ok-places-2.places.items
    put

pub loop-left-smaller : goal.loop-left-smaller
loop-left-smaller g c =
    let before = c.loop-left.invariant in
    let left = c.loop-left.left.items in
    let places = c.loop-left.places.items in
    let a = c.in_ok-next.next in
    let p = c.in_ok-page.page in
    let some : All IsNone p.places.items → ⊥ = λ none.
    let bare : All IsNone c.deref-in-loop-left-2.result.now = subst (All IsNone) (sym c.deref-in-loop-left-2.ensures.value) none in
    search (rules, bare, c.is_bare.ensures, c.if-is_bare.false) in
    let count : length p.places.items ≡ length left =
    count_as_given WAYS c.args.options.now left c.deref.result.now c.deref-in-loop-left.result.now c.deref.ensures.value
    c.deref-in-loop-left.ensures.value p.size a.size c.in_ok-page.ensures.size p.order.items p.places.items a.places.items
    c.in_ok-page.ensures.shown c.in_ok-page.ensures.areas c.in_ok-next.ensures.kind in
    let put : c.in_ok-places-2.places.items ≡ put_on c.len.result places p.places.items =
    c.in_ok-places-2.ensures.places ∙ ap (λ ps. put_on c.len.result ps c.deref-in-loop-left-4.result.now)
    c.deref-in-loop-left-3.ensures.value
    ∙ ap (put_on c.len.result places) c.deref-in-loop-left-4.ensures.value in
    let after : c.in_ok-left-2.left.items ≡ sprites_left c.args.sprites.now c.in_ok-places-2.places.items =
    c.in_ok-left-2.ensures.left ∙ ap (sprites_left c.args.sprites.now) c.deref-in-loop-left-5.ensures.value in
    fewer_left c.args.sprites.now left places before.are.long before.left c.len.result p.places.items count c.in_ok-places-2.places.items
    put
    c.in_ok-left-2.left.items after some

pub loop-left-preserved : goal.loop-left-preserved
loop-left-preserved g c =
    let before = c.loop-left.invariant in
    let left = c.loop-left.left.items in
    let places = c.loop-left.places.items in
    let a = c.in_ok-next.next in
    let p = c.in_ok-page.page in
    let some : All IsNone p.places.items → ⊥ = λ none.
    let bare : All IsNone c.deref-in-loop-left-2.result.now = subst (All IsNone) (sym c.deref-in-loop-left-2.ensures.value) none in
    search (rules, bare, c.is_bare.ensures, c.if-is_bare.false) in
    let count : length p.places.items ≡ length left =
    count_as_given WAYS c.args.options.now left c.deref.result.now c.deref-in-loop-left.result.now c.deref.ensures.value
    c.deref-in-loop-left.ensures.value p.size a.size c.in_ok-page.ensures.size p.order.items p.places.items a.places.items
    c.in_ok-page.ensures.shown c.in_ok-page.ensures.areas c.in_ok-next.ensures.kind in
    let page =
    page_as_given WAYS c.args.options.now left c.deref.result.now c.deref-in-loop-left.result.now c.deref.ensures.value
    c.deref-in-loop-left.ensures.value p.size a.size c.in_ok-page.ensures.size p.order.items p.places.items a.places.items
    c.in_ok-page.ensures.shown c.in_ok-page.ensures.areas c.in_ok-next.ensures.kind c.in_ok-next.ensures.allowed some in
    let put : c.in_ok-places-2.places.items ≡ put_on c.len.result places p.places.items =
    c.in_ok-places-2.ensures.places ∙ ap (λ ps. put_on c.len.result ps c.deref-in-loop-left-4.result.now)
    c.deref-in-loop-left-3.ensures.value
    ∙ ap (put_on c.len.result places) c.deref-in-loop-left-4.ensures.value in
    record {
      are = more_pages c.args.sprites.now left places before.are.long before.left c.len.result p.places.items count
          c.in_ok-places-2.places.items
          put (IsPage WAYS c.args.options.now) c.loop-left.sizes.items c.push.new.self.items p.size (c.len.ensures ∙ c.loop-left.sizes.ok.0)
          c.in_ok-push.ensures.items before.are page;
      left = c.in_ok-left-2.ensures.left ∙ ap (sprites_left c.args.sprites.now) c.deref-in-loop-left-5.ensures.value;
    }

pub all_on-requires : goal.all_on-requires
all_on-requires g c =
    let before = c.loop-left.invariant in
    let left = c.loop-left.left in
    subst (All IsSome) (sym c.deref-2.ensures.value)
    (none_left c.args.sprites.now left.items c.loop-left.places.items before.are.long before.left
    (empty_left left.len left.items c.is_empty.result left.ok.0 c.is_empty.ensures c.loop-left-test.false))
