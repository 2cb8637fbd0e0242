use Rattle.std.proofs.Common.{◌≡◌, List, ℕ, take}
use Rattle.std.specs.BTreeSet.{contains}
use Rattle.std.specs.List.{list_any}
use denote.Ref.{Bor}
use Rattle.atlas_pack.proofs.NameSets.{HaveNamesApart, by_name, named}
use Rattle.atlas_pack.proofs.names.check_names.Given as goal

abbrev pub invariant-loop-number : goal.invariant-loop-number
invariant-loop-number l = record {
  known : (q : Bor (List ℕ)) → contains by_name l.names q ≡ list_any (named q) (take l.number l.sprites);
  apart : HaveNamesApart l.sprites l.number;
}
