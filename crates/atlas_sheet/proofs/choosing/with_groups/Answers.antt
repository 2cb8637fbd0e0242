use Rattle.std.proofs.Common.{◌≡◌, ◌∙◌, ◌<◌, ◌≤◌, ℕ, ap, arith, get_or, false, length, replicate, None, rules, subst, sym, take_all}
use Rattle.atlas_sheet.specs.Grouping.{AreChosen, members, pixels_together}
use Rattle.atlas_sheet.proofs.GroupTakes.{written}
use Rattle.std.proofs.lemmas.List.{get_or_read}
use Rattle.atlas_sheet.proofs.GroupAsks.{HasRoom, IsMarked, IsShut, asked_as, asked_begin, asked_closed, asked_end, asked_none, asked_tried}
use Rattle.atlas_sheet.proofs.GroupAsks.{none_asked}
use Rattle.atlas_sheet.proofs.choosing.with_groups.Goals as goal
use Rattle.atlas_sheet.proofs.choosing.with_groups.Goals.{in-Some+then-is_open+in_ok-chosen+in_ok-room-2, in-Some+else-is_open, in_default}

pub loop-number-init : goal.loop-number-init
loop-number-init g c =
    let o = c.args.options.now in
    let sprites = c.args.sprites.now in
    let first = c.args.first.row.items in
    let bare : c.in_ok-asked.asked.items ≡ replicate c.len.result false = c.in_ok-asked.ensures.items_if_clones_equal
    (λ y is. search (rules, is)) in
    record {
      chosen = c.requires.chosen;
      asked = asked_begin o sprites c.args.groups.now c.in_ok-slots.slots.items c.in_ok-asked.asked.items first c.in_ok-room.room
          c.requires.first.0
          c.in_ok-slots.ensures.slots.0 c.requires.first.1 c.requires.first.2 c.in_ok-slots.ensures.slots.1
          (none_asked c.len.result c.in_ok-asked.asked.items bare)
          (subst (λ r. HasRoom o sprites r c.in_ok-room.room) c.deref-2.ensures.value c.in_ok-room.ensures.room);
    }

pub loop-number-preserved : goal.loop-number-preserved
loop-number-preserved g c =
    let o = c.args.options.now in
    let sprites = c.args.sprites.now in
    let groups = c.args.groups.now in
    let slots = c.in_ok-slots.slots.items in
    let pixels_in = c.in_ok-pixels.pixels.items in
    let k = c.loop-number.number in
    let row = c.loop-number.chosen.row.items in
    let so = c.loop-number.invariant.asked in
    let inside : k < length groups = c.loop-number-test.true in
    elim c.match-place.branch [
      | in-Some+then-is_open+in_ok-chosen+in_ok-room-2 w ↦
          let new = w.is_open.new.asked in
          let slot : w.index.result.now ≡ get_or slots k None =
          get_or_read slots k w.index.result.now (omega (arith, inside, c.in_ok-slots.ensures.long)) w.index.ensures None in
          let is_chosen : w.index-is_chosen.result.now ≡ get_or row k false =
          get_or_read row k w.index-is_chosen.result.now (omega (arith, inside, c.requires.long, c.loop-number.invariant.chosen.long))
          w.index-is_chosen.ensures false in
          let long : length new ≡ c.loop-number.asked.len =
          omega (arith, w.is_open.auto.asked, ap length w.deref_mut.ensures.value, c.loop-number.asked.ok.0) in
          let asked_is : c.match-place.asked.items ≡ new =
          ap (λ v. v.items) w.asked-is ∙ written c.loop-number.asked.len new c.loop-number.asked.items long in
          let marks : (s : ℕ) → IsMarked (get_or slots k None) c.loop-number.asked.items new s = λ s.
          subst (λ q. IsMarked q c.loop-number.asked.items new s) slot
          (subst (λ a. IsMarked w.index.result.now a new s) w.deref_mut.ensures.value (w.is_open.ensures.asked s)) in
          let off : get_or row k false ≡ false = sym is_chosen ∙ w.is_open.ensures.open_yet w.if-is_open.true in
          let more = w.in_ok-chosen.chosen.row.items in
          let room = subst (λ r. HasRoom o sprites r w.in_ok-room-2.room) w.deref-then-is_open.ensures.value w.in_ok-room-2.ensures.room in
          record {
            chosen = subst (AreChosen o sprites groups) (sym w.chosen-is) w.in_ok-chosen.ensures.chosen;
            asked = asked_as
                (asked_tried so inside w.in-Some.group w.in-Some.is new marks off more w.in_ok-room-2.room
                (w.in_ok-chosen.ensures.taken so.there so.row_is) room)
                c.match-place.asked.items c.match-place.chosen.row.items c.match-place.room asked_is (ap (λ x. x.row.items) w.chosen-is)
                w.room-is;
          }
      | in-Some+else-is_open w ↦
          let new = w.is_open.new.asked in
          let slot : w.index.result.now ≡ get_or slots k None =
          get_or_read slots k w.index.result.now (omega (arith, inside, c.in_ok-slots.ensures.long)) w.index.ensures None in
          let is_chosen : w.index-is_chosen.result.now ≡ get_or row k false =
          get_or_read row k w.index-is_chosen.result.now (omega (arith, inside, c.requires.long, c.loop-number.invariant.chosen.long))
          w.index-is_chosen.ensures false in
          let long : length new ≡ c.loop-number.asked.len =
          omega (arith, w.is_open.auto.asked, ap length w.deref_mut.ensures.value, c.loop-number.asked.ok.0) in
          let asked_is : c.match-place.asked.items ≡ new =
          ap (λ v. v.items) w.asked-is ∙ written c.loop-number.asked.len new c.loop-number.asked.items long in
          let marks : (s : ℕ) → IsMarked (get_or slots k None) c.loop-number.asked.items new s = λ s.
          subst (λ q. IsMarked q c.loop-number.asked.items new s) slot
          (subst (λ a. IsMarked w.index.result.now a new s) w.deref_mut.ensures.value (w.is_open.ensures.asked s)) in
          let less : (s : ℕ) → get_or pixels_in s 0 ≤ pixels_together (members s slots sprites) = λ s.
          subst (λ qs. get_or pixels_in s 0 ≤ pixels_together (members s qs sprites)) c.deref.ensures.value
          (c.in_ok-pixels.ensures.together s) in
          let room = c.loop-number.room in
          let shut : IsShut (get_or slots k None) c.loop-number.asked.items (get_or row k false) pixels_in room =
          subst (λ q. IsShut q c.loop-number.asked.items (get_or row k false) pixels_in room) slot
          (subst (λ b. IsShut w.index.result.now c.loop-number.asked.items b pixels_in room) is_chosen
          (subst (λ a. IsShut w.index.result.now a w.index-is_chosen.result.now pixels_in room) w.deref_mut.ensures.value
          (subst (λ p. IsShut w.index.result.now w.deref_mut.result.now w.index-is_chosen.result.now p room) w.deref-in-Some.ensures.value
          (w.is_open.ensures.closed w.if-is_open.false)))) in
          record {
            chosen = subst (AreChosen o sprites groups) (sym w.chosen-is) c.loop-number.invariant.chosen;
            asked = asked_as (asked_closed so inside w.in-Some.group w.in-Some.is new marks pixels_in c.requires.long less shut)
                c.match-place.asked.items c.match-place.chosen.row.items c.match-place.room asked_is (ap (λ x. x.row.items) w.chosen-is)
                w.room-is;
          }
      | in_default w ↦ record {
        chosen = subst (AreChosen o sprites groups) (sym w.chosen-is) c.loop-number.invariant.chosen;
        asked = asked_as (asked_none so inside w.in_default.is) c.match-place.asked.items c.match-place.chosen.row.items c.match-place.room
            (ap (λ v. v.items) w.asked-is) (ap (λ x. x.row.items) w.chosen-is) w.room-is;
      }
    ]

pub returns-clause-there : goal.returns-clause-there
returns-clause-there g c =
    asked_end c.loop-number.invariant.asked (take_all c.loop-number.number c.args.groups.now (omega (arith, c.loop-number-test.false)))
