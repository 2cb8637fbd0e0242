-- A `&` to a `PagedReader` opens for a while. Assumes `Logic`.
use Rattle.std.proofs.Common.{refl}
use seplogic.Ra.Ura.{Ura}
use types.Logic.{Logic}
use denote.Opens.{Opens}
use denote.RattleType.{RattleType, RowLaws}
use denote.Struct.Owning.{shape}
use denote.Struct.Struct.{Struct}
use Rattle.std.specs.contracts.alloc.Global as heap
use Rattle.std.proofs.alloc.Global.TheLaws as heap_laws
use Rattle.std.specs.contracts.impls.GlobalAllocator.TheImpl.{ghosts}
use Rattle.atlas_pages.proofs.paged.PagedAtlas.TheLaws as laws
use Rattle.guillotiere_c.specs.Keeping.{paged_row as row}
use Rattle.guillotiere_c.specs.contracts.paged_handle.PagedReader as view
use Rattle.guillotiere_c.proofs.paged_handle.PagedReader.TheLaws.{lowers}
use Rattle.guillotiere_c.proofs.Lent.{view_opens}

pub row_laws : RowLaws row
row_laws = (laws.the_row_laws heap.the_row ghosts heap_laws.the_row_laws).shr_laws

abbrev pub fields : RattleType
fields = Struct (shape view.the_type)

pub opens : {M : Type 1} {𝓤 : Ura M} (𝓛 : Logic 𝓤) → Opens 𝓛 view.the_row
opens 𝓛 = view_opens 𝓛 row row_laws view.the_row (λ h b o. refl) (λ h. lowers.lowered h) lowers.val_is (λ h. h.at) (λ h. h.kept)
    (λ h. fields.own_val (h.at, tt)) (λ h vs vss. (tt, (tt, tt))) (λ h vs. refl)
