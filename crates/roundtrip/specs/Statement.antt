-- Demand 2: "Writing an image and loading it into as much memory gives the same machine." What load answers, in which
-- order. And what it loads of the devices where the image does not name them.
use Rattle.std.specs.Prelude.{ℕ, ◌≤◌, ◌≡◌, true, false, List, [], ◌∷◌, take, length, eqb}
use Rattle.isa.specs.Machine.{table_words, Typed, in_range, sizes_fit}
use Rattle.isa.specs.Images.{image_of, image_size, contents, bodies, contents_fit, entries_answer, named_words}
use Rattle.isa.specs.Images.{ImageEntry, kind_devices, loaded_state, loaded_words}
use Rattle.isa.specs.Devices.{cleared_devices}
use Rattle.isa.specs.Answers.{LoadCall, load_call, load_answer, written_output}
use Rattle.isa.specs.declared.machine.State.{State}
use Rattle.isa.specs.declared.answer.Refusal.{Refusal}
use Rattle.isa.specs.declared.answer.Refusal.TheVariants.{Sizes, State as StateRange, Contents, Bodies}
use Rattle.std.specs.declared.result.Result.TheVariants.{Ok, Err}

-- a machine that step and run do not refuse: lent words of the sizes above, and a state in range
pub record Machine (s : State) (m t : List ℕ) : Type 0 where
  pub typed : Typed s
  pub range : in_range s ≡ true
  pub sizes : sizes_fit m t ≡ true

-- the machine after loading the image i into as much memory: s₀, m₀ and t₀ are what was there before
pub record Loads (s : State) (m t i : List ℕ) : Type 0 where
  pub loads : (s₀ : State) (m₀ t₀ : List ℕ) → length m₀ ≡ length m → length t₀ ≡ length t
      → load_call s₀ i m₀ t₀ ≡ record { answer = Ok tt; state = s; memory = m; tables = t }

-- the image, and the first words of any output that was long enough for it
pub record RoundTrip (s : State) (m t : List ℕ) : Type 0 where
  pub image : Loads s m t (image_of s m t)
  pub output : (out : List ℕ) → image_size m ≤ length out → Loads s m t (take (image_size m) (written_output s m t out))

-- "Load: 4, contents short or over 32 entries; for each entry 5 .. 6 .. 7 .. 8, bodies other than exactly the rest; 2":
-- each refusal where those before it do not hold, 1 before all
pub record LoadOrder (i m t : List ℕ) : Type 0 where
  pub sizes : sizes_fit m t ≡ false → load_answer i m t ≡ Err Sizes
  pub contents_short : sizes_fit m t ≡ true → contents_fit i ≡ false → load_answer i m t ≡ Err Contents
  pub entry : (r : Refusal) → sizes_fit m t ≡ true → contents_fit i ≡ true
      → entries_answer (length m) [] (contents i) ≡ Err r
      → load_answer i m t ≡ Err r
  pub bodies_differ : sizes_fit m t ≡ true → contents_fit i ≡ true → entries_answer (length m) [] (contents i) ≡ Ok tt
      → eqb (named_words (contents i)) (length (bodies i)) ≡ false → load_answer i m t ≡ Err Bodies
  pub state : sizes_fit m t ≡ true → contents_fit i ≡ true → entries_answer (length m) [] (contents i) ≡ Ok tt
      → eqb (named_words (contents i)) (length (bodies i)) ≡ true → in_range (loaded_state i) ≡ false
      → load_answer i m t ≡ Err StateRange
  pub loaded : sizes_fit m t ≡ true → contents_fit i ≡ true → entries_answer (length m) [] (contents i) ≡ Ok tt
      → eqb (named_words (contents i)) (length (bodies i)) ≡ true → in_range (loaded_state i) ≡ true
      → load_answer i m t ≡ Ok tt

-- load answers exactly one of a machine or a refusal that leaves everything as it came
pub data Either (s : State) (i m t : List ℕ) (r : LoadCall) : Type 0 where
  machine : r ≡ record {
    answer = Ok tt;
    state = loaded_state i;
    memory = loaded_words 1 (length m) i;
    tables = loaded_words 4 table_words i;
  } → Either s i m t r
  refusal : (x : Refusal) → r ≡ record { answer = Err x; state = s; memory = m; tables = t } → Either s i m t r

-- none of the entries has the kind k
abbrev pub Without : ℕ → List ImageEntry → Type 0
Without k [] = Unit
Without k (e ∷ es) = (e.kind ≡ k → ⊥) × Without k es

-- document 02, card 1: "Images gain kind 5 ..; an image without it loads cleared devices"
abbrev pub LoadsClearedDevices : Type 0
LoadsClearedDevices = (i : List ℕ) → Without kind_devices (contents i) → (loaded_state i).devices ≡ cleared_devices
