-- Bodies in their places.
-- Assumes nothing.
use Prim.Native.Nat.{ℕ, ◌+◌, ◌*◌, ◌≤◌, ◌<◌}
use mathlib.Core.Path.{◌≡◌, sym, ap, subst, ◌∙◌}
use mathlib.Core.Bool.{cond}
use mathlib.Core.List.{List, ◌∷◌, ◌++◌}
use native.Mathlib.Omega.{arith}
use native.Mathlib.Nat.{le_refl}
use lib.ListN.{length, get_or, take, drop, length-drop}
use Rattle.std.proofs.Common.{take-take}
use lib.Seq.{paste}
use lib.Dec.{eqb}
use Rattle.isa.specs.Images.{ImageEntry, entries_of, named_words, placed, contents, bodies}
use Rattle.image_directory.specs.Entries.{image_entry_at, rest_of}
use Rattle.image_directory.proofs.Entries.{rest_next, rest_end, rest_start}
use Rattle.image_load.specs.Placing.{Inside, Placeable}

module _ (k size j n : ℕ) (i b : List ℕ) (e : ImageEntry) (h : j < n) (q : e ≡ image_entry_at j i) where
  rest : rest_of j n i ≡ e ∷ rest_of (j + 1) n i
  rest = rest_next j n i h ∙ ap (λ (x : ImageEntry). x ∷ rest_of (j + 1) n i) (sym q)

  -- the entry's body lies in front of the bodies that are left
  pub body_lies : named_words (rest_of j n i) ≡ length b → e.count ≤ length b
  body_lies a = let z = ap named_words rest in omega (arith, z, a)

  pub named_rest : named_words (rest_of j n i) ≡ length b → named_words (rest_of (j + 1) n i) ≡ length (drop e.count b)
  named_rest a = let z = ap named_words rest in simp length-drop (omega (arith, z, a))

  -- its place lies within the target, if it is of the kind; so do the rest
  pub place_lies : Inside k size (rest_of j n i) → e.kind ≡ k → e.start + e.count ≤ size
  place_lies p = (subst (Inside k size) rest p).0

  pub inside_next : Inside k size (rest_of j n i) → Inside k size (rest_of (j + 1) n i)
  inside_next p = (subst (Inside k size) rest p).1

  -- one entry more: f is its body, b' what is left behind that
  pub placed_next : (d d' f b' : List ℕ) → f ≡ take e.count b → b' ≡ drop e.count b
      → d' ≡ cond (eqb e.kind k) (paste d e.start f e.count) d
      → placed k (rest_of j n i) b d ≡ placed k (rest_of (j + 1) n i) b' d'
  placed_next d d' f b' y z w =
      let m = take-take e.count e.count b (le_refl e.count) in
      ap (λ (es : List ImageEntry). placed k es b d) rest
      ∙ (λ x. placed k (rest_of (j + 1) n i) (sym z x)
      (cond (eqb e.kind k) (take e.start d ++ (sym m ∙ ap (take e.count) (sym y)) x ++ drop (e.start + e.count) d) d))
      ∙ ap (placed k (rest_of (j + 1) n i) b') (sym w)

pub placed_end : (k j n : ℕ) (i b d : List ℕ) → n ≤ j → placed k (rest_of j n i) b d ≡ d
placed_end k j n i b d h = ap (λ (es : List ImageEntry). placed k es b d) (rest_end j n i h)

-- before the first entry
module _ (k size n : ℕ) (i b : List ℕ) (e : n ≡ get_or i 0 0) (p : Placeable k size i)
    (h : b ≡ drop (1 + n * 5) i) where
  from_first : rest_of 0 n i ≡ contents i
  from_first = rest_start n i ∙ ap (λ (x : ℕ). entries_of x (drop 1 i)) e

  all_bodies : b ≡ bodies i
  all_bodies = h ∙ ap (λ (x : ℕ). drop (1 + x * 5) i) e

  pub placed_first : (d d' : List ℕ) → d' ≡ d
      → placed k (contents i) (bodies i) d ≡ placed k (rest_of 0 n i) b d'
  placed_first d d' q = λ x. placed k (sym from_first x) (sym all_bodies x) (sym q x)

  pub inside_first : Inside k size (rest_of 0 n i)
  inside_first = subst (Inside k size) (sym from_first) p.inside

  pub named_first : named_words (rest_of 0 n i) ≡ length b
  named_first =
      let q = ap length all_bodies ∙ length-drop (1 + get_or i 0 0 * 5) i in
      ap named_words from_first ∙ omega (arith, q, p.all)
