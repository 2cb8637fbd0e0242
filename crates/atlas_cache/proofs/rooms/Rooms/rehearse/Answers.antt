use Rattle.atlas_cache.proofs.RoomLemmas.KeptPages.{has_a, id_lives, page_of}
use Rattle.atlas_cache.proofs.RoomLemmas.ShownPages.{none_around, room_there, shown_after}
use Rattle.atlas_cache.proofs.rooms.Rooms.rehearse.Goals as goal

pub rehearse-area-requires-clause-live : goal.rehearse-area-requires-clause-live
rehearse-area-requires-clause-live g c =
    let shown = rw (← c.self.view_is) at c.requires.on_page in
    let pages = c.self.inside.pages.items in
    let within = page_of pages c.args.page c.args.id shown in
    let a = c.index-atlas.result.now in
    id_lives pages _ a a c.index-atlas.ensures within c.args.id shown

pub rehearse-area-requires-clause-shown : goal.rehearse-area-requires-clause-shown
rehearse-area-requires-clause-shown g c =
    let pages = c.self.inside.pages.items in
    let within = page_of pages c.args.page c.args.id (rw (← c.self.view_is) at c.requires.on_page) in
    let a = c.index-atlas.result.now in
    let showing = rw (← c.self.view_is) at c.requires.showing in
    (showing.0, showing.1.shown a (has_a pages c.args.page a a c.index-atlas.ensures within), showing.2)

pub returns-then-fits-clause-shown : goal.returns-then-fits-clause-shown
returns-then-fits-clause-shown g c =
    let pages = c.self.inside.pages.items in
    let within = page_of pages c.args.page c.args.id (rw (← c.self.view_is) at c.requires.on_page) in
    rw (← c.self.view_is) (λ ids was fresh.
    shown_after pages c.args.page c.index-atlas.result.now c.index-atlas.ensures within _ _ ids _ was c.rehearse-area.ensures.marks
    (λ old. c.rehearse-area.ensures.shown ids old fresh))

pub returns-clause-shown : goal.returns-clause-shown
returns-clause-shown g c =
    let pages = c.self.inside.pages.items in
    let within = page_of pages c.args.page c.args.id (rw (← c.self.view_is) at c.requires.on_page) in
    rw (← c.self.view_is) (λ ids was fresh.
    shown_after pages c.args.page c.index-atlas.result.now c.index-atlas.ensures within _ _ ids _ was c.rehearse-area.ensures.marks
    (λ old. c.rehearse-area.ensures.shown ids old fresh))

pub returns-then-fits-clause-room : goal.returns-then-fits-clause-room
returns-then-fits-clause-room g c =
    let pages = c.self.inside.pages.items in
    let within = page_of pages c.args.page c.args.id (rw (← c.self.view_is) at c.requires.on_page) in
    let a = c.index-atlas.result.now in
    rw (← c.self.view_is) (λ ids was fresh.
    room_there pages c.args.page a c.index-atlas.ensures within c.args.asked _ _
    (c.rehearse-area.ensures.free ids (was.shown a (has_a pages c.args.page a a c.index-atlas.ensures within)) fresh)
    (c.fits.ensures.0 c.if-fits.true).1)

pub returns-clause-none : goal.returns-clause-none
returns-clause-none g c =
    let shown = rw (← c.self.view_is) at c.requires.on_page in
    let pages = c.self.inside.pages.items in
    let within = page_of pages c.args.page c.args.id shown in
    let a = c.index-atlas.result.now in
    let at = has_a pages c.args.page a a c.index-atlas.ensures within in
    let live = id_lives pages _ a a c.index-atlas.ensures within c.args.id shown in
    rw (← c.self.view_is) (λ ids was fresh _ none.
    none_around pages c.args.page a c.index-atlas.ensures within c.args.asked ids c.args.id _
    (c.self.invariant.0.each c.args.page a at).sound live c.rehearse-area.ensures.around
    (c.rehearse-area.ensures.free ids (was.shown a at) fresh)
    (λ positive fits. absurd (let yes = c.fits.ensures.1 (positive, fits) in let no = c.if-fits.false in cc)) none)
