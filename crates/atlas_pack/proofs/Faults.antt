-- What stops a text from being read.
use Rattle.std.proofs.Common.{ℕ, List}
use Rattle.atlas_pack.specs.declared.error.PackError.{PackError}
use Rattle.atlas_pack.specs.declared.error.PackError.TheVariants.{BadSettings, NotTogether, NoPages, BadLine, Twice, EmptySprite}
use Rattle.atlas_pack.specs.declared.error.PackError.TheVariants.{GreatSprite, EmptySheet, EmptyRange, EmptyAlignment, NoSheet, MorePages}
use Rattle.atlas_pack.specs.declared.error.PackError.TheVariants.{Memory, Device}
use Rattle.atlas_pack.specs.declared.settings.Settings.{Settings}
use Rattle.atlas_pack.specs.declared.sprites.Sprite.{Sprite}
use Rattle.atlas_pack.specs.Jobs.{IsJobFault, Sets}
use Rattle.atlas_pack.specs.Names.{IsNameFault}
use Rattle.atlas_pack.specs.Sprites.{AreNamed}

pub name_fault : (e : PackError) (text rest : List ℕ) (before : ℕ) (settings : Settings) (sprites : List Sprite)
    → Sets text before settings rest
    → AreNamed sprites rest → IsNameFault before sprites e → IsJobFault text e
name_fault BadSettings text rest before settings sprites set named fault = absurd fault
name_fault NotTogether text rest before settings sprites set named fault = absurd fault
name_fault NoPages text rest before settings sprites set named fault = absurd fault
name_fault (BadLine number) text rest before settings sprites set named fault = absurd fault
name_fault (Twice number) text rest before settings sprites set named fault =
    record { before = before; settings = settings; rest = rest; sprites = sprites; set = set; named = named; fault = fault }
name_fault (EmptySprite number) text rest before settings sprites set named fault = absurd fault
name_fault (GreatSprite number) text rest before settings sprites set named fault = absurd fault
name_fault EmptySheet text rest before settings sprites set named fault = absurd fault
name_fault EmptyRange text rest before settings sprites set named fault = absurd fault
name_fault EmptyAlignment text rest before settings sprites set named fault = absurd fault
name_fault NoSheet text rest before settings sprites set named fault = absurd fault
name_fault MorePages text rest before settings sprites set named fault = absurd fault
name_fault Memory text rest before settings sprites set named fault = tt
name_fault (Device e) text rest before settings sprites set named fault = absurd fault
