-- An id that has an entry, found among entries by rising id.
use Rattle.std.proofs.Common.{◌≡◌, ℕ, ◌<◌, ◌≤◌, ◌⊎◌, inl, inr, ltb, ltb-true, ltb-false, true, false, get_or, List, length, ap, sym, ◌∙◌}
use Rattle.std.proofs.Common.{arith, Contains}
use Rattle.std.specs.List.Sorted.{IsNonDecreasingBy, IsPartitionPoint}
use Rattle.std.proofs.lemmas.Bool.{cases_lt}
use Rattle.std.proofs.lemmas.List.{get_or_default}
use Rattle.guillotiere_recording.specs.declared.names.LiveName.{LiveName as Entry}
use Rattle.guillotiere_recording.specs.Names.{entries_of, name_among}
use Rattle.guillotiere_recording.proofs.Entries.{entry_of, name_of}

pub placed_id : (ns : List Entry) (at id : ℕ) → IsNonDecreasingBy (λ (n : Entry). n.id) ns → 1 ≤ entries_of id ns
    → IsPartitionPoint (λ (n : Entry). ltb n.id id ≡ true) (λ (n : Entry). ltb n.id id ≡ false) ns at
    → (at < length ns) × ((d : Entry) → (get_or ns at d).id ≡ id)
placed_id ns at id order some point =
    let r = entry_of id ns some in
    let k : ℕ = r.1.0 in
    let low : k < length ns = r.1.1 in
    let its : (get_or ns k r.0).id ≡ id = ap (λ (n : Entry). n.id) r.1.2 ∙ r.2 in
    let not_before : (k < at) ⊎ (at ≤ k) → at ≤ k = λ h. elim h [
      | inl less ↦
          (let l : (get_or ns k r.0).id < id = ltb-true _ _ (point.0 k r.0 (omega arith) less) in absurd (omega arith))
      | inr more ↦ more
    ] in
    let reach : at ≤ k = not_before (cases_lt k at) in
    let inside : at < length ns = omega arith in (
      inside,
      λ d.
          let up : (get_or ns at r.0).id ≤ (get_or ns k r.0).id = order at k r.0 reach low in
          let down : id ≤ (get_or ns at r.0).id = ltb-false _ _ (point.1 at r.0 (omega arith) inside) in
          let same : (get_or ns at d).id ≡ (get_or ns at r.0).id = ap (λ (n : Entry). n.id) (get_or_default ns at d r.0 inside) in
          omega arith,
    )

abbrev pub entry_with : ℕ → ℕ → Entry
entry_with name k = record { name = name; id = k }

pub contains_there : (ns : List Entry) (at : ℕ) (w : Entry) (id : ℕ) → at < length ns → (get_or ns at w).id ≡ id
    → Contains ns (record { name = (get_or ns at w).name; id = id })
contains_there ns at w id inside is = (
  at,
  inside,
  get_or_default ns at (entry_with (get_or ns at w).name id) w inside ∙
      ap (entry_with (get_or ns at w).name) is,
)

-- The name that a look-up gives is the one among the entries.
pub named_so : (ns : List Entry) (name number id : ℕ) → ((k : ℕ) → entries_of k ns ≤ 1) → number ≡ id
    → Contains ns (entry_with name number)
    → name ≡ name_among ns id
named_so ns name number id once same there =
    sym (name_of id ns (entry_with name number) (once id) there same)
