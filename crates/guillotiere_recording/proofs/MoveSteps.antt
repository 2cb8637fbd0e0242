-- One change or one failure more under its name.
use Rattle.std.proofs.Common.{◌≡◌, ℕ, ap, ap₂, ◌∙◌}
use Rattle.guillotiere.specs.declared.Allocation.{Allocation}
use Rattle.guillotiere.specs.declared.Change.{Change}
use Rattle.guillotiere_recording.specs.declared.names.LiveName.{LiveName as Entry}
use Rattle.guillotiere_recording.specs.Moves.{change_under, failure_under, entry_under}

abbrev pub called : ℕ → Allocation → Allocation
called name a = record { id = name; rectangle = a.rectangle }

abbrev pub both : Allocation → Allocation → Change
both a b = record { old = a; new = b }

abbrev pub entry : ℕ → ℕ → Entry
entry name id = record { name = name; id = id }

pub failure_named : (x item a : Allocation) (name : ℕ) (f : ℕ → ℕ) → item ≡ x → name ≡ f x.id → a ≡ called name item
    → a ≡ failure_under f x
failure_named x item a name f is names said = said ∙ ap (called name) is ∙ ap (λ n. called n x) names

pub change_named : (x item : Change) (a b : Allocation) (name : ℕ) (f : ℕ → ℕ) → item ≡ x → name ≡ f x.old.id
    → a ≡ called name item.old → b ≡ called name item.new → both a b ≡ change_under f x
change_named x item a b name f is names said_a said_b =
    ap₂ both (said_a ∙ ap (λ (c : Change). called name c.old) is ∙ ap (λ n. called n x.old) names)
    (said_b ∙ ap (λ (c : Change). called name c.new) is ∙ ap (λ n. called n x.new) names)

pub entry_named : (x item : Change) (name : ℕ) (f : ℕ → ℕ) → item ≡ x → name ≡ f x.old.id
    → entry name item.new.id ≡ entry_under f x
entry_named x item name f is names = ap₂ entry names (ap (λ (c : Change). c.new.id) is)
