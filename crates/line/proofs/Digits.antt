-- What a reader of digits answers, as the number of a word.
use Rattle.std.proofs.Common.{◌≡◌, ℕ, ◌^◌, ◌<◌, Bool, true, false, ◌&&◌, ltb, ◌⊎◌, List, length, Some, None, Ok, Err, Result, sym, ap, ◌∙◌, inl, inr, rules}
use Rattle.std.specs.Result.{OkIff, result_ok}
use Rattle.std.specs.Str.{all_ascii_digits}
use Rattle.std.proofs.lemmas.Str.Parse.{IsNumeralModel, numerals_by_fold}
use Rattle.std.proofs.lemmas.Bool.{and_from, and_parts, cases_Bool, cond-true, cond-false, lt-ltb, ltb-true}
use Rattle.line.specs.Numbers.{read_on, value, number_of}

pub own : IsNumeralModel (λ ds. all_ascii_digits ds ≡ true) (read_on 0)
own = numerals_by_fold _ (search rules) read_on (search rules)

abbrev Number : List ℕ → Type 0
Number w = (all_ascii_digits w ≡ true) × (0 < length w) × (value w < 2 ^ 32)

abbrev is_number : List ℕ → Bool
is_number w = all_ascii_digits w && (ltb 0 (length w) && ltb (value w) (2 ^ 32))

pub read_number : {E : Type 0} (w : List ℕ) (r : Result ℕ E) → OkIff r (Number w) (value w) → result_ok r ≡ number_of w
read_number w (Ok x) h =
    let test : is_number w ≡ true =
    and_from _ _ h.0.0 (and_from _ _ (lt-ltb 0 (length w) h.0.1) (lt-ltb (value w) (2 ^ 32) h.0.2)) in
    ap Some h.1 ∙ sym (cond-true (is_number w) (Some (value w)) None test)
read_number w (Err e) h = by (cases_Bool (is_number w))
  where
    by : (is_number w ≡ true) ⊎ (is_number w ≡ false) → None ≡ number_of w
    by (inl t) =
        let p = and_parts (all_ascii_digits w) _ t in
        let q = and_parts (ltb 0 (length w)) _ p.1 in
        absurd (h (p.0, ltb-true 0 (length w) q.0, ltb-true (value w) (2 ^ 32) q.1))
    by (inr f) = sym (cond-false (is_number w) (Some (value w)) None f)
