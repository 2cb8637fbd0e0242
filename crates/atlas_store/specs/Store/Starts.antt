-- The start of an atlas: one free slot. No public clause cites this module.
use Rattle.std.specs.Prelude.{ℕ, ◌≡◌, pos, true, false, List, [], ◌∷◌, length, vec_capacity}
use Rattle.atlas_store.specs.declared.store.Store.{Store}
use Rattle.atlas_model.specs.declared.options.AllocatorOptions.{AllocatorOptions}
use Rattle.atlas_store.specs.declared.slots.Slot.{Slot}
use Rattle.atlas_store.specs.declared.slots.NodeKind.TheVariants as kind
use Rattle.atlas_search.specs.declared.cut.Orientation.TheVariants as orientation
use Rattle.atlas_model.specs.declared.geometry.Size.{Size}
use Rattle.atlas_model.specs.Boxes.{Sides}
use Rattle.atlas_model.specs.Boxes.Axis.{Vertical}
use Rattle.atlas_model.specs.Pixels.{sides_of}
use Rattle.atlas_store.specs.Slots.{nodes}
use Rattle.atlas_search.specs.Numbers.{no_slot}
use Rattle.atlas_store.specs.Slots.Numbered.{End, Free}
use Rattle.atlas_store.specs.Slots.Links.{with_mark}
use Rattle.atlas_store.specs.Stored.{Holding, Holds}
use Rattle.atlas_store.specs.Store.Holdings.{shelf_of, IsTakenOnce}

-- The one slot of an atlas of this size in which nothing is granted.
abbrev pub one_free_slot : Size → Slot
one_free_slot size =
    record {
      parent = record { number = no_slot };
      previous = record { number = no_slot };
      next = record { number = no_slot };
      area = record { min = record { x = pos 0; y = pos 0 }; max = record { x = size.width; y = size.height } };
      up = record { number = no_slot };
      left = record { number = no_slot };
      right = record { number = no_slot };
      kind = kind.Free;
      axis = orientation.Vertical;
      generation = 0;
      is_fork = false;
    }

-- What one free slot holds, while it is detached.
abbrev pub detached_holding : Sides → Holding
detached_holding size =
    record {
      sequence = record { parent = no_slot; axis = Vertical; start = 0; width = size.width };
      tree = Free 0 size.height End;
      unused_list = [];
      free_lists = λ k. [];
      detached = with_mark (λ _. false) 0 true;
    }

-- What it holds once it stands in a list.
abbrev pub start_holding : (ℕ → List ℕ) → Sides → Holding
start_holding free_lists size =
    record {
      sequence = record { parent = no_slot; axis = Vertical; start = 0; width = size.width };
      tree = Free 0 size.height End;
      unused_list = [];
      free_lists = free_lists;
      detached = with_mark (with_mark (λ _. false) 0 true) 0 false;
    }

-- One free slot of this size, in its list, and no other slot.
pub record IsBegun {A : Type 0} (new : Store A) (size : Size) (given : AllocatorOptions) : Type 0 where
  pub holds : (free_lists : ℕ → List ℕ) × Holds (shelf_of new) (start_holding free_lists (sides_of size))
  pub slots : nodes new.slots.items ≡ nodes (one_free_slot size ∷ [])
  pub one : length new.slots.items ≡ 1
  pub once : IsTakenOnce new
  pub options : new.options ≡ given

-- It is so from now on; the memory stays.
pub record IsStarted {A : Type 0} (old new : Store A) (size : Size) (given : AllocatorOptions) : Type 0 where
  pub begun : IsBegun new size given
  pub capacity : vec_capacity new.slots ≡ vec_capacity old.slots
  pub turns : new.turns ≡ old.turns
