-- In a tree one member at most comes first in a container.
use Rattle.std.proofs.Common.{ℕ, ◌+◌, ◌≤◌, ◌≡◌, ◌≢◌, ◌==◌, if◌then◌else◌, List, refl, sym, ap, ◌∙◌, inl, inr, arith}
use Rattle.std.proofs.lemmas.Bool.{cases_eq, eq-eqb, ne_eqb}
use Rattle.atlas_image.specs.Members.{IsFirstOf}
use Rattle.atlas_search.specs.Numbers.{no_slot, same}
use Rattle.atlas_store.specs.declared.slots.Node.{Node}
use Rattle.atlas_store.specs.declared.slots.NodeKind.TheVariants as kind
use Rattle.atlas_store.specs.Slots.{node_at, use_count}
use Rattle.atlas_store.specs.Slots.Numbered.{Numbered, tally, weigh, End, Free, Alloc, Seq}
use Rattle.atlas_store.specs.Slots.Standing.{Sequence, Standing, Stands, inside}
use Rattle.atlas_store.proofs.SlotLemmas.Frames.{same-self, same-ne, used-le, ne-from_same}

-- 1 if what comes after b in a sequence of `parent` comes first in c.
abbrev first_count : (b c parent : ℕ) → ℕ
first_count b c parent = if b == no_slot then same c parent else 0

first_later : (b c parent : ℕ) → b ≢ no_slot → first_count b c parent ≡ 0
first_later b c parent ne = rw (ne_eqb b no_slot ne) refl

first_begins : (b c parent : ℕ) → b ≡ no_slot → first_count b c parent ≡ same c parent
first_begins b c parent e = rw (eq-eqb b no_slot e) refl

abbrev firsts_of : List Node → (c : ℕ) → ℕ → ℕ
firsts_of ns c k = first_count (node_at ns k).previous.number c (node_at ns k).parent.number

firsts-few : (ns : List Node) (c : ℕ) (s : Sequence) (b p : ℕ) (m : Numbered) → Standing ns s b p m → tally no_slot m ≡ 0
    → weigh (firsts_of ns c) m ≤ first_count b c s.parent + tally c m
firsts-few ns c s b p End h none = omega arith
firsts-few ns c s b p (Free i e rest) h none =
    let later = first_later i c s.parent (ne-from_same no_slot i (omega arith)) in
    let here : firsts_of ns c i ≡ first_count b c s.parent = rw (h.0.previous, h.0.parent) refl in
    omega (arith, here, later, firsts-few ns c s i (p + e) rest h.2 (omega arith))
firsts-few ns c s b p (Alloc i g e rest) h none =
    let later = first_later i c s.parent (ne-from_same no_slot i (omega arith)) in
    let here : firsts_of ns c i ≡ first_count b c s.parent = rw (h.0.previous, h.0.parent) refl in
    omega (arith, here, later, firsts-few ns c s i (p + e) rest h.3 (omega arith))
firsts-few ns c s b p (Seq i e inner rest) h none =
    let later = first_later i c s.parent (ne-from_same no_slot i (omega arith)) in
    let here : firsts_of ns c i ≡ first_count b c s.parent = rw (h.0.previous, h.0.parent) refl in
    let begins = first_begins no_slot c i refl in
    omega (
      arith,
      here,
      later,
      begins,
      firsts-few ns c (inside s i p e) no_slot s.start inner h.2 (omega arith),
      firsts-few ns c s i (p + e) rest h.3 (omega arith),
    )

-- Two members weigh what they weigh together.
pair-weighs : (w : ℕ → ℕ) (j k : ℕ) → ((x : ℕ) → same j x + same k x ≤ w x) → (n : Numbered)
    → tally j n + tally k n ≤ weigh w n
pair-weighs w j k h End = omega arith
pair-weighs w j k h (Free i e rest) = omega (arith, h i, pair-weighs w j k h rest)
pair-weighs w j k h (Alloc i g e rest) = omega (arith, h i, pair-weighs w j k h rest)
pair-weighs w j k h (Seq i e inner rest) = omega (arith, h i, pair-weighs w j k h inner, pair-weighs w j k h rest)

module _ (ns : List Node) (s : Sequence) (n : Numbered) (top : s.parent ≡ no_slot) (stands : Stands ns s n)
    (ends : (node_at ns no_slot).kind ≡ kind.Unused) where
  firsts_once : (c : ℕ) → weigh (firsts_of ns c) n ≤ 1
  firsts_once c =
      let none : tally no_slot n ≡ 0 = stands.numbered no_slot ∙ ap use_count ends in
      let begins = first_begins no_slot c s.parent refl in
      let few = firsts-few ns c s no_slot 0 n stands.standing none in
      elim (cases_eq c no_slot) [
        | inl e ↦ omega (
          arith,
          few,
          begins,
          ap (λ v. same v s.parent) e,
          ap (same no_slot) top,
          same-self no_slot,
          ap (λ v. tally v n) e,
          none,
        )
        | inr ne ↦ omega (
          arith,
          few,
          begins,
          ap (same c) top,
          same-ne c no_slot ne,
          stands.numbered c,
          used-le (node_at ns c).kind,
        )
      ]

  first_one : (c k : ℕ) → IsFirstOf (node_at ns k) c → firsts_of ns c k ≡ 1
  first_one c k f = first_begins (node_at ns k).previous.number c (node_at ns k).parent.number f.previous
      ∙ ap (same c) f.parent ∙ same-self c

  -- Two slots that come first in one container are one.
  pub first-once : (c j k : ℕ) → IsFirstOf (node_at ns j) c → IsFirstOf (node_at ns k) c → j ≡ k
  first-once c j k f g = elim (cases_eq j k) [
    | inl e ↦ e
    | inr ne ↦
        let both : (x : ℕ) → same j x + same k x ≤ firsts_of ns c x = λ x. elim (cases_eq j x) [
          | inl e ↦ omega (
            arith,
            ap (firsts_of ns c) e,
            first_one c j f,
            same-ne k x (λ q. ne (e ∙ sym q)),
            ap (same j) e,
            same-self j,
          )
          | inr nj ↦ elim (cases_eq k x) [
            | inl e ↦ omega (arith, ap (firsts_of ns c) e, first_one c k g, same-ne j x nj, ap (same k) e, same-self k)
            | inr nk ↦ omega (arith, same-ne j x nj, same-ne k x nk)
          ]
        ] in
        absurd (omega (
          arith,
          firsts_once c,
          pair-weighs (firsts_of ns c) j k both n,
          stands.numbered j,
          stands.numbered k,
          f.used,
          g.used,
        ))
  ]
