use Rattle.std.proofs.Common.{rules}
use Rattle.guillotiere.specs.Rearranging.{rearrangement_of}
use Rattle.guillotiere.specs.Stored.{state_of}
use Rattle.guillotiere_c.proofs.atlas_lists.guillotiere_atlas_rearrange.Goals as goal

pub returns-in-Ok-clause-done : goal.returns-in-Ok-clause-done
returns-in-Ok-clause-done c done =
    let old = state_of c.deref_mut.result.now in
    let new = state_of c.rearrange-answer.new.self in (
      rearrangement_of c.in-Ok.list,
      search rules,
      c.write_whole_list.ensures old new (search rules) (search rules) (search rules) (search rules),
    )
