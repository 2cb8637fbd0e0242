-- What a rearranging wrote into the caller's arrays.
use Rattle.std.specs.Prelude.{◌≡◌, ◌≤◌, List, length, map, All}
use Rattle.guillotiere_c.specs.declared.plain.PlainAllocation.{PlainAllocation}
use Rattle.guillotiere_c.specs.declared.plain.PlainChange.{PlainChange}
use Rattle.guillotiere_c.specs.declared.plain.PlainChangeCount.{PlainChangeCount}
use Rattle.guillotiere_c.specs.Numbers.{allocation_in, change_in}
use Rattle.guillotiere_c.specs.Writing.{IsWritten}
use Rattle.guillotiere.specs.declared.Allocation.{Allocation}
use Rattle.guillotiere.specs.declared.Change.{Change}
use Rattle.guillotiere.specs.Rearranging.{transfer_of, IsExactChange}
use Rattle.guillotiere.specs.Refits.{Rearrangement}
use Rattle.guillotiere.specs.Replies.{grant_of, IsExact}

-- Two arrays of the caller's.
pub record Arrays : Type 0 where
  pub changes : List PlainChange
  pub failures : List PlainAllocation

-- Both lists of a rearrangement stand at the start of their arrays, which have room for them, and are counted. No coordinate in them is
-- below 0.
pub record AreBothWritten (list : Rearrangement) (old new : Arrays) (count : PlainChangeCount) : Type 0 where
  pub changes : List Change
  pub failures : List Allocation
  pub moved : map transfer_of changes ≡ list.changes
  pub lost : map grant_of failures ≡ list.failures
  pub moved_exact : All IsExactChange changes
  pub lost_exact : All (λ (a : Allocation). IsExact a.rectangle) failures
  pub changes_room : length changes ≤ length old.changes
  pub failures_room : length failures ≤ length old.failures
  pub changes_written : IsWritten change_in changes old.changes new.changes
  pub failures_written : IsWritten allocation_in failures old.failures new.failures
  pub changes_count : count.changes ≡ length changes
  pub failures_count : count.failures ≡ length failures
