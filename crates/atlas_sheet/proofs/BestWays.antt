-- Ways that are tried one after another, and the best of them so far.
use Rattle.std.proofs.Common.{◌≡◌, ◌<◌, ◌≤◌, ℕ, zero, suc, List, [], length, take, get_or, take_all, All, Option, refl, ap, sym, subst}
use Rattle.std.proofs.Common.{arith}
use Rattle.std.specs.Prelude.{Contains}
use Rattle.std.proofs.Math.Seq.{take-suc}
use Rattle.std.proofs.lemmas.List.Elements.{All-nil, All-push, All-weaker, Contains-get_or}
use Rattle.guillotiere.specs.declared.Size.{Size}
use Rattle.guillotiere.specs.declared.Rectangle.{Rectangle}
use Rattle.guillotiere.specs.Boxes.{Sides}
use Rattle.atlas_sheet.specs.declared.options.Spacing.{Spacing}
use Rattle.atlas_sheet.specs.declared.ways.Way.{Way}
use Rattle.atlas_sheet.specs.Fillings.{AreBest, FindsFewer, IsNoBetter}
use Rattle.atlas_sheet.specs.Firsts.{StandsBefore}
use Rattle.atlas_sheet.specs.Sheets.{AreFoundBy, ArePlaces, used_area}
use Rattle.atlas_sheet.proofs.FirstOnes.{stands_earlier, stands_last}

-- An element more of which something holds.
pub all_more : {X : Type 0} (P : X → Type 0) (xs : List X) (k : ℕ) (d : X) → k < length xs → All P (take k xs)
    → P (get_or xs k d)
    → All P (take (suc k) xs)
all_more P xs k d inside each here =
    subst (All P) (sym (take-suc xs k d inside)) (All-push P (take k xs) (get_or xs k d) each here)

-- Of the first k ways this one, with its order and these places, is the best.
pub record IsGoing (sheet : Sides) (spacing : Spacing) (sprites : List Size) (ways : List Way) (k : ℕ) (way : Way)
    (order : List (ℕ × Size)) (places : List (Option Rectangle)) (most : ℕ) : Type 0 where
  pub area : most ≡ used_area places
  pub none : k ≡ 0 → most ≡ 0
  pub good : 0 < k → ArePlaces sheet spacing sprites places
  pub begun : 0 < k → Contains ways way × AreFoundBy sheet spacing sprites way order places
  pub best : All (IsNoBetter sheet spacing sprites most) (take k ways)
  pub last : 0 < k → StandsBefore (FindsFewer sheet spacing sprites most) (take k ways) way

pub begin : (sheet : Sides) (spacing : Spacing) (sprites : List Size) (ways : List Way) (best : Way)
    (order : List (ℕ × Size))
    (places : List (Option Rectangle)) → places ≡ [] → IsGoing sheet spacing sprites ways 0 best order places 0
begin sheet spacing sprites ways best order places is = record {
  area = ap used_area (sym is);
  none = λ _. refl;
  good = λ past. absurd (omega (arith, past));
  begun = λ past. absurd (omega (arith, past));
  best = All-nil (IsNoBetter sheet spacing sprites 0);
  last = λ past. absurd (omega (arith, past));
}

module _ (sheet : Sides) (spacing : Spacing) (sprites : List Size) (ways : List Way) (k : ℕ) (d best : Way) (order asked : List (ℕ × Size))
    (places found : List (Option Rectangle)) (most area : ℕ) (inside : k < length ways) (is : area ≡ used_area found)
    (are : AreFoundBy sheet spacing sprites (get_or ways k d) asked found)
    (before : IsGoing sheet spacing sprites ways k best order places most) where
  -- A way that finds no fewer pixels.
  pub better : ArePlaces sheet spacing sprites found → most ≤ area
      → IsGoing sheet spacing sprites ways (suc k) (get_or ways k d) asked found area
  better good le =
      record {
        area = is;
        none = λ e. absurd (omega (arith, e));
        good = λ _. good;
        begun = λ _. (Contains-get_or ways k d inside, are);
        best = all_more (IsNoBetter sheet spacing sprites area) ways k d inside
            (All-weaker (IsNoBetter sheet spacing sprites most) (IsNoBetter sheet spacing sprites area)
            (λ way no. let few : used_area no.1 ≤ most = no.3 in (no.0, no.1, no.2, omega (arith, few, le))) (take k ways) before.best)
            (asked, found, are, omega arith);
        last = λ _. subst (λ l. StandsBefore (FindsFewer sheet spacing sprites area) l (get_or ways k d)) (sym (take-suc ways k d inside))
            (stands_last (FindsFewer sheet spacing sprites area) (take k ways) (get_or ways k d));
      }

  -- A way that finds fewer.
  pub kept : area < most → IsGoing sheet spacing sprites ways (suc k) best order places most
  kept less =
      let begun : 0 < k = by_number k refl in
      record {
        area = before.area;
        none = λ e. absurd (omega (arith, e));
        good = λ _. before.good begun;
        begun = λ _. before.begun begun;
        best = all_more (IsNoBetter sheet spacing sprites most) ways k d inside before.best (asked, found, are, omega arith);
        last = λ _. subst (λ l. StandsBefore (FindsFewer sheet spacing sprites most) l best) (sym (take-suc ways k d inside))
            (stands_earlier (FindsFewer sheet spacing sprites most) (take k ways) best (get_or ways k d)
            (asked, found, are, omega (arith, less, is))
            (before.last begun));
      }
    where
      by_number : (n : ℕ) → k ≡ n → 0 < k
      by_number zero e = let nothing : most ≡ 0 = before.none e in absurd (omega arith)
      by_number (suc n) e = omega arith

-- All ways were tried.
pub all_tried : (sheet : Sides) (spacing : Spacing) (sprites : List Size) (ways : List Way) (k : ℕ) (best : Way)
    (order : List (ℕ × Size))
    (places : List (Option Rectangle)) (most : ℕ) → length ways ≤ k → 0 < length ways
    → IsGoing sheet spacing sprites ways k best order places most → AreBest ways sheet spacing sprites best order places
all_tried sheet spacing sprites ways k best order places most end some going =
    let begun = going.begun (omega arith) in
    record {
      tried = begun.0;
      found = begun.1;
      best = subst (λ n. All (IsNoBetter sheet spacing sprites n) ways) going.area
          (subst (All (IsNoBetter sheet spacing sprites most)) (take_all k ways end) going.best);
      last = subst (λ n. StandsBefore (FindsFewer sheet spacing sprites n) ways best) going.area
          (subst (λ l. StandsBefore (FindsFewer sheet spacing sprites most) l best) (take_all k ways end) (going.last (omega arith)));
    }

-- What is no better than few pixels is no better than more.
pub still_best : (sheet : Sides) (spacing : Spacing) (sprites : List Size) (ways : List Way) (less more : ℕ)
    → less ≤ more
    → All (IsNoBetter sheet spacing sprites less) ways → All (IsNoBetter sheet spacing sprites more) ways
still_best sheet spacing sprites ways less more le each =
    All-weaker (IsNoBetter sheet spacing sprites less) (IsNoBetter sheet spacing sprites more)
    (λ way no. let few : used_area no.1 ≤ less = no.3 in (no.0, no.1, no.2, omega (arith, few, le))) ways each

-- What is no better than few pixels is fewer than more.
pub all_fewer : (sheet : Sides) (spacing : Spacing) (sprites : List Size) (ways : List Way) (less more : ℕ)
    → less < more
    → All (IsNoBetter sheet spacing sprites less) ways → All (FindsFewer sheet spacing sprites more) ways
all_fewer sheet spacing sprites ways less more le each =
    All-weaker (IsNoBetter sheet spacing sprites less) (FindsFewer sheet spacing sprites more)
    (λ way no. let few : used_area no.1 ≤ less = no.3 in (no.0, no.1, no.2, omega (arith, few, le))) ways each
