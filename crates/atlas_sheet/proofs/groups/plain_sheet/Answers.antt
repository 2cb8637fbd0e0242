use Rattle.std.proofs.Common.{arith, rules, length, replicate, All, IsNone, None, refl, subst, sym}
use Rattle.atlas_sheet.specs.declared.ways.TheConstants.{WAYS}
use Rattle.atlas_sheet.proofs.PageFinds.{count_as_given, left_with, none_as_given, page_as_given}
use Rattle.atlas_sheet.proofs.groups.plain_sheet.Goals as goal

pub returns-then-is_bare-clause-none : goal.returns-then-is_bare-clause-none
returns-then-is_bare-clause-none g c =
    let sprites = c.args.sprites.now in
    let a = c.in_ok-next.next in
    let p = c.in_ok-page.page in
    let bare : All IsNone c.deref.result.now = search (rules, c.is_bare.ensures, c.if-is_bare.true) in
    none_as_given WAYS c.args.options.now sprites sprites sprites refl refl p.size a.size c.in_ok-page.ensures.size p.order.items
    p.places.items
    a.places.items c.in_ok-page.ensures.shown c.in_ok-page.ensures.areas c.in_ok-next.ensures.kind sprites (replicate (length sprites) None)
    (omega arith) (left_with sprites sprites (replicate (length sprites) None) refl refl) c.requires.some c.requires.good.placing.packable
    (subst (All IsNone) c.deref.ensures.value bare)

pub returns-clause-page : goal.returns-clause-page
returns-clause-page g c =
    let sprites = c.args.sprites.now in
    let a = c.in_ok-next.next in
    let p = c.in_ok-page.page in
    let some : All IsNone p.places.items → ⊥ = λ none.
    let bare : All IsNone c.deref.result.now = subst (All IsNone) (sym c.deref.ensures.value) none in
    search (rules, bare, c.is_bare.ensures, c.if-is_bare.false) in
    page_as_given WAYS c.args.options.now sprites sprites sprites refl refl p.size a.size c.in_ok-page.ensures.size p.order.items
    p.places.items
    a.places.items c.in_ok-page.ensures.shown c.in_ok-page.ensures.areas c.in_ok-next.ensures.kind c.in_ok-next.ensures.allowed some

pub returns-clause-count : goal.returns-clause-count
returns-clause-count g c =
    let sprites = c.args.sprites.now in
    let a = c.in_ok-next.next in
    let p = c.in_ok-page.page in
    count_as_given WAYS c.args.options.now sprites sprites sprites refl refl p.size a.size c.in_ok-page.ensures.size p.order.items
    p.places.items
    a.places.items c.in_ok-page.ensures.shown c.in_ok-page.ensures.areas c.in_ok-next.ensures.kind
