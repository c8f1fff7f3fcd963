-- What is written is read back: numbers.
use Rattle.std.proofs.Common.{◌≡◌, ℕ, suc, ◌+◌, ◌^◌, ◌<◌, ◌≤◌, true, false, eqb, List, [], ◌∷◌, ◌++◌, length, take, drop, Some, Ok, decimal, Result, sym, refl, ap, ◌∙◌, append_assoc, one-add, arith, rules}
use Rattle.std.specs.List.{prefix_len}
use Rattle.std.proofs.lemmas.Fmt.{digits_decimal, digits_value-decimal, decimal_nonempty, length-decimal-le}
use Rattle.std.proofs.lemmas.List.{take_at, drop_at, drop-drop}
use Rattle.std.proofs.lemmas.Str.Parse.{IsNumeralModel, numerals_by_fold}
use Rattle.std.proofs.lemmas.Bool.{cond-true, cond-false, and_parts}
use Rattle.std.proofs.lemmas.Bool.Decides.{nat_tests}
use Rattle.tokens.specs.declared.fault.Fault.{Fault}
use Rattle.tokens.specs.declared.token.Numeral.{Numeral}
use Rattle.tokens.specs.Places.{visible, blank, ends, line_of}
use Rattle.tokens.specs.Numbers.{digit, digits, value_after, numeral, value_of}
use Rattle.tokens.specs.Tokens.{number, sorted, front, next_token}
use Rattle.writing.specs.Writes.{spaced}
use Rattle.tokens.specs.Headers.{gap}
use Rattle.tokens.specs.Lines.{then, number_at, number_in, numbers_at}

own : IsNumeralModel (λ ds. digits ds ≡ true) (value_after 0)
own = numerals_by_fold _ (search rules) value_after (search rules)

-- a number of 32 bits is read back from its digits
pub number_back : (n : ℕ) → n < 2 ^ 32 → value_of (decimal n) ≡ Some n
number_back n small =
    let all : digits (decimal n) ≡ true = digits_decimal own n (omega arith) in
    let value : value_after 0 (decimal n) ≡ n = digits_value-decimal own n (omega arith) in
    let some : 0 < length (decimal n) = decimal_nonempty n (omega arith) in
    let short : length (decimal n) ≤ 10 = length-decimal-le 10 n (omega arith) (omega arith) (omega arith) in
    let yes : numeral (decimal n) ≡ true = grind (arith, nat_tests) in
    cond-true _ _ _ yes ∙ ap Some value

-- what follows a token
abbrev pub Stops : List ℕ → Type 0
Stops rest = prefix_len visible rest ≡ 0

row_ends : (ds rest : List ℕ) → digits ds ≡ true → Stops rest → prefix_len visible (ds ++ rest) ≡ length ds
row_ends [] rest all stop = stop
row_ends (d ∷ ds) rest all stop =
    let parts = and_parts (digit d) (digits ds) all in
    let seen : visible d ≡ true = grind (arith, nat_tests, parts.0) in
    cond-true _ _ _ seen ∙ one-add _ ∙ ap suc (row_ends ds rest parts.1 stop)

front_is : (ds rest : List ℕ) → digits ds ≡ true → Stops rest → front (ds ++ rest) ≡ ds
front_is ds rest all stop = ap (λ k. take k (ds ++ rest)) (row_ends ds rest all stop) ∙ take_at ds rest (length ds) refl

-- the first byte is a digit, so neither blank nor other than visible
first_digit : (text : List ℕ) (at : ℕ) (ds rest : List ℕ) → 0 < length ds → digits ds ≡ true → next_token text at (ds ++ rest) ≡ Ok (sorted (value_of (front (ds ++ rest))) (front (ds ++ rest)) at)
first_digit text at [] rest some all = absurd (omega arith)
first_digit text at (d ∷ ds) rest some all =
    let parts = and_parts (digit d) (digits ds) all in
    let other : blank d ≡ false = grind (arith, nat_tests, parts.0) in
    let seen : visible d ≡ true = grind (arith, nat_tests, parts.0) in
    cond-false _ _ _ other ∙ cond-true _ _ _ seen

pub token_back : (text : List ℕ) (at n : ℕ) (rest : List ℕ) → n < 2 ^ 32 → Stops rest → next_token text at (decimal n ++ rest) ≡ Ok (number n (decimal n) at)
token_back text at n rest small stop =
    let all : digits (decimal n) ≡ true = digits_decimal own n (omega arith) in
    first_digit text at (decimal n) rest (decimal_nonempty n (omega arith)) all ∙ ap (λ f. Ok (sorted (value_of f) f at)) (front_is (decimal n) rest all stop) ∙ ap (λ o. Ok (sorted o (decimal n) at)) (number_back n small)

pub record Reads (text : List ℕ) (at n : ℕ) (rest : List ℕ) : Type 0 where
  pub value : number_at text at ≡ Ok (record { value = n; at = at + 1 }, at + 1 + length (decimal n))
  pub left : drop (at + 1 + length (decimal n)) text ≡ rest

pub reads_one : (text : List ℕ) (at n : ℕ) (rest : List ℕ) → n < 2 ^ 32 → Stops rest → drop at text ≡ 32 ∷ (decimal n ++ rest) → Reads text at n rest
reads_one text at n rest small stop here =
    record {
      value = ap (λ l. number_in text (next_token text at l)) here ∙ ap (number_in text) (token_back text (at + 1) n rest small stop);
      left = sym (drop-drop (1 + length (decimal n)) at text ∙ ap (λ k. drop k text) (omega arith)) ∙ ap (drop (1 + length (decimal n))) here ∙ ap (λ k. drop k (32 ∷ (decimal n ++ rest))) (one-add (length (decimal n))) ∙ drop_at (decimal n) rest (length (decimal n)) refl;
    }

-- a number with no blank before it
pub reads_first : (text : List ℕ) (at n : ℕ) (rest : List ℕ) → n < 2 ^ 32 → Stops rest → drop at text ≡ decimal n ++ rest → (number_at text at ≡ Ok (record { value = n; at = at }, at + length (decimal n))) × (drop (at + length (decimal n)) text ≡ rest)
reads_first text at n rest small stop here = (
  ap (λ l. number_in text (next_token text at l)) here ∙ ap (number_in text) (token_back text at n rest small stop),
  sym (drop-drop (length (decimal n)) at text) ∙ ap (drop (length (decimal n))) here ∙ drop_at (decimal n) rest (length (decimal n)) refl,
)

abbrev pub Small : List ℕ → Type 0
Small [] = Unit {0}
Small (n ∷ ns) = (n < 2 ^ 32) × Small ns

-- where these numbers are read, and where the reader stands then
abbrev pub places : ℕ → List ℕ → List Numeral
places at [] = []
places at (n ∷ ns) = record { value = n; at = at + 1 } ∷ places (at + 1 + length (decimal n)) ns

abbrev pub after_all : ℕ → List ℕ → ℕ
after_all at [] = at
after_all at (n ∷ ns) = after_all (at + 1 + length (decimal n)) ns

pub stops_spaced : (ns rest : List ℕ) → Stops rest → Stops (spaced ns ++ rest)
stops_spaced [] rest stop = stop
stops_spaced (n ∷ ns) rest stop = refl

pub then_ok : {A B : Type 0} (r : Result (A × ℕ) Fault) (a : A) (on : ℕ) (next : A → ℕ → Result B Fault) → r ≡ Ok (a, on) → then r next ≡ next a on
then_ok r a on next e = ap (λ x. then x next) e

pub record ReadsAll (text : List ℕ) (at : ℕ) (ns rest : List ℕ) : Type 0 where
  pub value : numbers_at text (length ns) at ≡ Ok (places at ns, after_all at ns)
  pub left : drop (after_all at ns) text ≡ rest

pub reads_all : (ns text : List ℕ) (at : ℕ) (rest : List ℕ) → Small ns → Stops rest → drop at text ≡ spaced ns ++ rest → ReadsAll text at ns rest
reads_all [] text at rest small stop here = record { value = refl; left = here }
reads_all (n ∷ ns) text at rest small stop here =
    let one = reads_one text at n (spaced ns ++ rest) small.0 (stops_spaced ns rest stop) (here ∙ ap (λ l. 32 ∷ l) (append_assoc (decimal n) (spaced ns) rest)) in
    let more = reads_all ns text (at + 1 + length (decimal n)) rest small.1 stop one.left in
    record {
      value = then_ok _ _ _ _ one.value ∙ then_ok _ _ _ _ more.value;
      left = more.left;
    }

lead : (ds rest : List ℕ) → 0 < length ds → digits ds ≡ true → prefix_len gap (ds ++ rest) ≡ 0
lead [] rest some all = absurd (omega arith)
lead (d ∷ ds) rest some all =
    let parts = and_parts (digit d) (digits ds) all in
    let other : gap d ≡ false = grind (arith, nat_tests, parts.0) in
    cond-false _ _ _ other

-- digits are no gap
pub lead_number : (n : ℕ) (rest : List ℕ) → n < 2 ^ 32 → prefix_len gap (decimal n ++ rest) ≡ 0
lead_number n rest small = lead (decimal n) rest (decimal_nonempty n (omega arith)) (digits_decimal own n (omega arith))

no_ends : (ds rest : List ℕ) → digits ds ≡ true → ends (take (length ds + 1) (ds ++ (32 ∷ rest))) ≡ 0
no_ends [] rest all = refl
no_ends (d ∷ ds) rest all =
    let parts = and_parts (digit d) (digits ds) all in
    let other : eqb d 10 ≡ false = grind (arith, nat_tests, parts.0) in
    let e : suc (length ds) + 1 ≡ suc (length ds + 1) = omega arith in
    ap (λ k. ends (take k (d ∷ (ds ++ (32 ∷ rest))))) e ∙ cond-false _ _ _ other ∙ no_ends ds rest parts.1

-- the first line's second number is on line 1
pub first_line : (text : List ℕ) (n : ℕ) (rest : List ℕ) → n < 2 ^ 32 → text ≡ decimal n ++ (32 ∷ rest) → line_of text (length (decimal n) + 1) ≡ 1
first_line text n rest small here = ap (λ t. line_of t (length (decimal n) + 1)) here ∙ ap (λ k. 1 + k) (no_ends (decimal n) rest (digits_decimal own n (omega arith)))
