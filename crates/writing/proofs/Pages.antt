-- Laws of putting one row of bytes after another.
use Rattle.std.proofs.Common.{◌≡◌, ℕ, ◌+◌, ◌-◌, ◌^◌, ◌<◌, ◌≤◌, List, [], ◌∷◌, ◌++◌, length, take, drop, get_or, min, set, sym, refl, ap, ◌∙◌, subst, append_assoc, arith, length-append}
use Rattle.std.proofs.Math.Seq.{set-append_seam}
use Rattle.std.proofs.lemmas.Bool.{cond-true, le-leb}
use Rattle.std.proofs.lemmas.List.{append-nil, take_more}
use Rattle.writing.specs.declared.page.Page.{Page}
use Rattle.writing.specs.Pages.{on, counted, kept, Puts}
use Rattle.writing.specs.Writes.{left}

counted_join : (at : ℕ) (xs ys : List ℕ) → counted (counted at xs) ys ≡ counted at (xs ++ ys)
counted_join at [] ys = refl
counted_join at (x ∷ xs) ys = counted_join (on at) xs ys

kept_join : (out : List ℕ) (at : ℕ) (xs ys : List ℕ) → kept (kept out at xs) (counted at xs) ys ≡ kept out at (xs ++ ys)
kept_join out at [] ys = refl
kept_join out at (x ∷ xs) ys = kept_join (set out at x) (on at) xs ys

pub puts_join : {p q r : Page} {xs ys : List ℕ} → Puts p xs q → Puts q ys r → Puts p (xs ++ ys) r
puts_join {p} {q} {r} {xs} {ys} a b =
    record {
      counts = b.counts ∙ ap (λ k. counted k ys) a.counts ∙ counted_join p.at xs ys;
      keeps = b.keeps ∙ ap (λ k. kept q.out.now k ys) a.counts ∙ ap (λ o. kept o (counted p.at xs) ys) a.keeps ∙ kept_join p.out.now p.at xs ys;
      lends = b.lends ∙ a.lends;
    }

pub puts_same : {p q : Page} {xs ys : List ℕ} → xs ≡ ys → Puts p xs q → Puts p ys q
puts_same {p} {q} e a = subst (λ z. Puts p z q) e a

-- a text of a line for each item of a list
module _ {A : Type 0} (text : List A → List ℕ) (line : A → List ℕ) (none : text [] ≡ []) (more : (x : A) (xs : List A) → text (x ∷ xs) ≡ line x ++ text xs) where
  text_append : (xs ys : List A) → text (xs ++ ys) ≡ text xs ++ text ys
  text_append [] ys = ap (λ t. t ++ text ys) (sym none)
  text_append (x ∷ xs) ys =
      more x (xs ++ ys) ∙ ap (λ t. line x ++ t) (text_append xs ys) ∙ sym (append_assoc (line x) (text xs) (text ys)) ∙ ap (λ t. t ++ text ys) (sym (more x xs))

  text_one : (x : A) → text (x ∷ []) ≡ line x
  text_one x = more x [] ∙ ap (λ t. line x ++ t) none ∙ append-nil (line x)

  -- the line of the next item
  pub puts_next : (xs : List A) (i : ℕ) (d : A) → i < length xs → {p q r : Page} → Puts p (text (take i xs)) q → Puts q (line (get_or xs i d)) r → Puts p (text (take (i + 1) xs)) r
  puts_next xs i d lt a b =
      puts_same (sym (ap text (take_more xs i d lt) ∙ text_append (take i xs) (get_or xs i d ∷ []) ∙ ap (λ t. text (take i xs) ++ t) (text_one (get_or xs i d)))) (puts_join a b)

-- a page from the front of the memory on
counted_min : (at : ℕ) (bytes : List ℕ) → at ≤ 2 ^ 64 - 1 → counted at bytes ≡ min (at + length bytes) (2 ^ 64 - 1)
counted_min at [] le = omega arith
counted_min at (b ∷ bs) le = omega (arith, counted_min (on at) bs (omega arith))

pub counted_all : (bytes : List ℕ) → counted 0 bytes ≡ min (length bytes) (2 ^ 64 - 1)
counted_all bytes = omega (arith, counted_min 0 bytes (omega arith))

kept_on : (done room bytes : List ℕ) → length bytes ≤ length room → length done + length room < 2 ^ 64 → kept (done ++ room) (length done) bytes ≡ done ++ (bytes ++ drop (length bytes) room)
kept_on done room [] le small = refl
kept_on done [] (b ∷ bs) le small = absurd (omega (arith, le))
kept_on done (r ∷ room) (b ∷ bs) le small =
    let next : on (length done) ≡ length (done ++ b ∷ []) = omega (arith, length-append done (b ∷ [])) in
    let here : set (done ++ r ∷ room) (length done) b ≡ (done ++ b ∷ []) ++ room = set-append_seam done r room b ∙ sym (append_assoc done (b ∷ []) room) in
    ap (λ o. kept o (on (length done)) bs) here ∙ ap (λ k. kept ((done ++ b ∷ []) ++ room) k bs) next
    ∙ kept_on (done ++ b ∷ []) room bs (omega (arith, le)) (omega (arith, small, length-append done (b ∷ [])))
    ∙ append_assoc done (b ∷ []) (bs ++ drop (length bs) room)

-- the whole text at the front of a room that is long enough
pub kept_front : (text room : List ℕ) → length text ≤ length room → length room < 2 ^ 64 → kept room 0 text ≡ left text room
kept_front text room le small = kept_on [] room text le (omega (arith, small)) ∙ sym (cond-true _ _ _ (le-leb (length text) (length room) le))
