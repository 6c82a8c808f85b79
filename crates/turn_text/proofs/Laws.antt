-- Words of bytes, and decimal digits.
-- Assumes nothing.
use Rattle.std.proofs.Common.{◌≡◌, ℕ, zero, suc, ◌+◌, ◌*◌, ◌/◌, ◌%◌, ◌≤◌, ◌<◌, List, [], ◌∷◌, ◌++◌, length, get_or, take, set, refl, sym, ap, ◌∙◌, append-nil, add-one, arith, lt-ltb, le-ltb}
use Rattle.std.proofs.Math.Nat.{mod-eq_of_lt}
use Rattle.std.proofs.Math.Seq.{take-suc, take-suc-set}
use Rattle.turn_text.specs.Bytes.{bytes_as_words}
use Rattle.std.specs.Fmt.{decimal as std-decimal}
use Rattle.std.proofs.lemmas.Fmt.{decimal_from_prepends, length-decimal-le}
use Rattle.std.specs.Str.{IsAscii, IsUtf8}
use Rattle.std.proofs.lemmas.Str.{IsUtf8-from_ascii}
use Rattle.turn_text.specs.Text.{decimal_before, decimal, octal}

-- ---- words

pub words_length : (bs : List ℕ) → length (bytes_as_words bs) ≡ length bs / 2
unfolding bytes_as_words
words_length [] = refl
words_length (h ∷ []) = refl
words_length (h ∷ l ∷ bs) =
    let e : suc (length bs / 2) ≡ suc (suc (length bs)) / 2 = omega arith in
    ap suc (words_length bs) ∙ e

pub word_at : (bs : List ℕ) (i : ℕ) → i * 2 + 1 < length bs
    → get_or (bytes_as_words bs) i 0 ≡ get_or bs (i * 2) 0 * 256 + get_or bs (i * 2 + 1) 0
unfolding bytes_as_words
word_at [] i h = absurd (omega arith)
word_at (x ∷ []) i h = absurd (omega arith)
word_at (x ∷ y ∷ bs) zero h = refl
word_at (x ∷ y ∷ bs) (suc i) h =
    let e : suc i * 2 ≡ suc (suc (i * 2)) = omega arith in
    let f : suc i * 2 + 1 ≡ suc (suc (i * 2 + 1)) = omega arith in
    let b = x ∷ y ∷ bs in
    word_at bs i (omega arith)
    ∙ sym (ap (λ (k : ℕ). get_or b k 0 * 256 + get_or b (suc i * 2 + 1) 0) e
    ∙ ap (λ (k : ℕ). get_or b (suc (suc (i * 2))) 0 * 256 + get_or b k 0) f)

-- one more word
pub word_more : (bs ws : List ℕ) (i : ℕ) → take i ws ≡ take i (bytes_as_words bs) → i < length bs / 2
    → length bs / 2 ≤ length ws
    → take (i + 1) (set ws i (get_or bs (i * 2) 0 * 256 + get_or bs (i * 2 + 1) 0)) ≡ take (i + 1) (bytes_as_words bs)
word_more bs ws i e h r =
    let v = get_or bs (i * 2) 0 * 256 + get_or bs (i * 2 + 1) 0 in
    let n : i < length (bytes_as_words bs) = simp (words_length bs) h in
    ap (λ (k : ℕ). take k (set ws i v)) (add-one i)
    ∙ take-suc-set ws i v (omega arith)
    ∙ ap (λ (x : List ℕ). x ++ (v ∷ [])) e
    ∙ ap (λ (x : ℕ). take i (bytes_as_words bs) ++ (x ∷ [])) (sym (word_at bs i (omega arith)))
    ∙ sym (take-suc (bytes_as_words bs) i 0 n)
    ∙ ap (λ (k : ℕ). take k (bytes_as_words bs)) (sym (add-one i))

-- ---- decimal digits

-- std's digits of a number of 64 bits are at most 20, and those of the definition
pub decimal_digits : (n : ℕ) → n < 18446744073709551616 → std-decimal n ≡ decimal n
unfolding decimal
decimal_digits n small =
    sym (append-nil (std-decimal n))
    ∙ sym (decimal_from_prepends decimal_before (record { one = last_digit; more = digit_more }) 20 n [] small few)
  where
    few : length (std-decimal n) ≤ 20
    few = length-decimal-le 20 n (omega arith) (omega arith) small

    last_digit : (k m : ℕ) (after : List ℕ) → m < 10 → decimal_before (suc k) m after ≡ (48 + m) ∷ after
    last_digit k m after l = simp (lt-ltb m 10 l, mod-eq_of_lt l)

    digit_more : (k m : ℕ) (after : List ℕ) → 10 ≤ m
        → decimal_before (suc k) m after ≡ decimal_before k (m / 10) ((48 + m % 10) ∷ after)
    digit_more k m after l = simp (le-ltb m 10 l)

-- ---- octal digits

octal_ascii : (w : ℕ) → w < 65536 → IsAscii (octal w)
octal_ascii w h zero = omega (arith, h)
octal_ascii w h (suc zero) = omega arith
octal_ascii w h (suc (suc zero)) = omega arith
octal_ascii w h (suc (suc (suc zero))) = omega arith
octal_ascii w h (suc (suc (suc (suc zero)))) = omega arith
octal_ascii w h (suc (suc (suc (suc (suc zero))))) = omega arith
octal_ascii w h (suc (suc (suc (suc (suc (suc i)))))) = omega arith

pub octal_utf8 : (w : ℕ) → w < 65536 → IsUtf8 (octal w)
octal_utf8 w h = IsUtf8-from_ascii (octal w) (octal_ascii w h)
