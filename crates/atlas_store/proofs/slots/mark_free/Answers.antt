use Rattle.std.proofs.Common.{◌<◌, length, refl}
use Rattle.std.proofs.lemmas.List.{length-map}
use Rattle.atlas_store.specs.Slots.{nodes}
use Rattle.atlas_store.proofs.SlotLemmas.CalmTrees.{calm-marked}
use Rattle.atlas_store.proofs.SlotLemmas.MarkedLeaves.{Stands-marked}
use Rattle.atlas_store.proofs.SlotLemmas.Frames.{IsWritten-by, keeps-same}
use Rattle.atlas_store.proofs.slots.mark_free.Goals as goal

pub returns : goal.returns
returns c =
    let at : c.args.slot.number < length (nodes c.args.slots.now) = simp length-map c.requires.inside in
    let w = IsWritten-by (nodes c.args.slots.now) (nodes c.set_kind.new.slots) c.args.slot.number _ _ c.set_kind.ensures.written refl at in
    record {
      tree = Stands-marked _ _ _ w c.requires.allocated;
      calm = calm-marked _ _ _ _ w;
      leaf = w.there;
      others = λ k ne. keeps-same _ _ (w.others k ne);
      same_rings = c.set_kind.ensures.same_rings;
    }
