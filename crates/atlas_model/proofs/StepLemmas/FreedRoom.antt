-- The room that freeings would make in a state.
use Rattle.std.proofs.Common.{◌≡◌, ℕ, refl, ap, subst, sym, ◌∙◌, arith, inl, inr, ◌⊎◌, Contains, Some}
use Rattle.std.proofs.lemmas.Bool.{eq-eqb}
use Rattle.atlas_model.specs.Boxes.{Sides, Box, box_sides, Fits, IsInside}
use Rattle.atlas_model.specs.Changes.{and_id, only, release}
use Rattle.atlas_model.specs.Choice.{rounded}
use Rattle.atlas_model.specs.Laws.RoomLaws.{RoomIsAround, RoomIsKept, NothingShownChangesNothing, FreedTwice, RoomGrows}
use Rattle.atlas_model.specs.Replies.{live_box}
use Rattle.atlas_model.specs.States.{State, live_in, free_in, after_freeing, IsSound}
use Rattle.atlas_model.specs.Trees.{Grant, Tree, grant, live, free_boxes}
use Rattle.atlas_model.proofs.ListLemmas.ListCounts.{counted_once}
use Rattle.atlas_model.proofs.StepLemmas.ApartBoxes.{box_owner, live_lie_within}
use Rattle.atlas_model.proofs.StepLemmas.LiveBoxes.{is_for, few_live}
use Rattle.atlas_model.proofs.TreeLemmas.TreeInside.{room_comes_from_inside, freeing_makes_one_box, one_free_box_around}
use Rattle.atlas_model.proofs.TreeLemmas.TreeInside.{release-part}
use Rattle.atlas_model.proofs.TreeLemmas.TreeKept.{release_well_formed}
use Rattle.atlas_model.proofs.TreeLemmas.TreeNormal.{release-none, release-release}
use Rattle.atlas_model.proofs.TreeLemmas.TreeRoom.{freed_keeps_room, sides_inside}

-- A live id has one box.
one_box : (s : State) (id : ℕ) (b c : Box) → IsSound s → live_box s id ≡ Some b → Contains (live_in s) (grant id c) → c ≡ b
one_box s id b c sound is held =
    let owner = box_owner s id b is in
    ap (λ (k : Grant). k.box)
    (counted_once (is_for id) (live_in s) (grant id c) owner.0 (few_live s id sound) held owner.1 (eq-eqb id id refl)
    (eq-eqb owner.0.id id owner.2))
    ∙ owner.3

pub room_is_around : RoomIsAround
room_is_around s set id b f r sound is at_f in_f none small room =
    by_cases (freeing_makes_one_box s.size s.tree set id room.box sound.well_formed room.fitting.is_free)
  where
    by_cases : Contains (free_in (after_freeing s set)) room.box
        ⊎ ((c : Box) × Contains (live_in s) (grant id c) × IsInside c room.box) → ⊥
    by_cases (inl at) =
        none (record {
          positive = room.positive;
          box = room.box;
          fitting = record { is_free = at; fits = room.fitting.fits };
        })
    by_cases (inr (c, held, within)) =
        let same : f ≡ room.box =
        one_free_box_around s.size (release (and_id set id) s.tree) b f room.box
        (release_well_formed s.size (and_id set id) s.tree sound.well_formed) (live_lie_within s id b sound is).0 at_f
        room.fitting.is_free in_f (subst (λ k. IsInside k room.box) (one_box s id b c sound is held) within) in
        small (subst (λ k. Fits (rounded s.options r) (box_sides k)) (sym same) room.fitting.fits)

pub room_is_kept : RoomIsKept
room_is_kept s set part f r sound those at positive fits = record {
  positive = positive;
  box = f;
  fitting = record {
    is_free = room_comes_from_inside s.size s.tree set part f sound.well_formed those at;
    fits = fits;
  };
}

pub nothing_shown : NothingShownChangesNothing
nothing_shown s sound = ap (free_boxes s.size) (release-none s.tree sound.normal)

pub freed_twice : FreedTwice
freed_twice = record {
  free = λ s set id. ap (free_boxes s.size) (release-release (only id) set s.tree);
  live = λ s set id. ap (live s.size) (release-release (only id) set s.tree);
}

fits_both : (r b c : Sides) → Fits r b → Fits b c → Fits r c
fits_both r b c h k = (omega (arith, h.0, k.0), omega (arith, h.1, k.1))

pub room_grows : RoomGrows
room_grows s set part o r sound of_set room =
    let around = freed_keeps_room s.size set (release part s.tree) room.box
    (release_well_formed s.size part s.tree sound.well_formed) room.fitting.is_free in
    record {
      positive = room.positive;
      box = around.0;
      fitting = record {
        is_free = subst (λ (u : Tree). Contains (free_boxes s.size u) around.0) (release-part set part s.tree of_set) around.1;
        fits = fits_both _ _ _ room.fitting.fits (sides_inside room.box around.0 around.2);
      };
    }
