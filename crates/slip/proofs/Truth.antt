-- A true slip is accepted.
use Rattle.std.proofs.Common.{◌≡◌, ℕ, ◌*◌, ◌<◌, ◌≤◌, Bool, true, cond, eqb, List, [], length, get_or, Ok, Err, Option, sym, refl, ap, ◌∙◌, subst, ap₂, le_of_lt, arith}
use Rattle.std.proofs.lemmas.Slice.Eq.{bytes_eq-Decides}
use Rattle.std.proofs.lemmas.Bool.{eq-eqb, ne_eqb, and_from, cond-true}
use Rattle.std.specs.List.{flat_map}
use Rattle.std.specs.Str.{bytes_eq}
use Rattle.terms.specs.declared.refusal.Refusal.TheVariants.{SealForm}
use Rattle.hash.specs.Hash.{Bytes}
use Rattle.tree.specs.Laws.{Hash, Sized}
use Rattle.tree.specs.Tree.{turns, digests, root, path, path_root}
use Rattle.tree.proofs.Level.{below_pow}
use Rattle.tree.proofs.Sizes.{root_size, path-digests, joined_length, digests-joined}
use Rattle.tree.proofs.Theorems.{path_length_lem, complete}
use Rattle.seal.specs.Seal.{Sealed, seal_form, sealed, is_under, seal_under, seal_bytes}
use Rattle.seal.proofs.Readings.{good}
use Rattle.seal.proofs.Written as seals
use Rattle.slip.specs.Laws.{Sound, TrueIsAccepted}
use Rattle.slip.specs.Slip.{Slipped, shown, slip_fault, slipped, slip_bytes, leads, held_answer, unless_read, check_answer}
use Rattle.slip.proofs.Written.{no_fault, same_parts}

module _ (d : Hash) (size : Sized d) (k : ℕ) (named : 0 < k) (bs : List Bytes) (few : length bs ≤ 4096) (i : ℕ) (below : i < length bs) (block : length (get_or bs i []) ≡ 1024) where
  abbrev y : Sealed
  y = record { kind = k; count = length bs; root = root d bs }

  abbrev x : Slipped
  x = record { kind = k; count = length bs; number = i; block = get_or bs i []; path = flat_map (λ p. p) (path d i bs) }

  all : digests (flat_map (λ p. p) (path d i bs)) ≡ path d i bs
  all = digests-joined (path d i bs) (path-digests d size (length bs) i bs (record { within = below; held = le_of_lt (below_pow (length bs)) }))

  sound : Sound x
  sound =
      record {
        named = named;
        few = few;
        below = below;
        block = block;
        path = joined_length (path d i bs) (path-digests d size (length bs) i bs (record { within = below; held = le_of_lt (below_pow (length bs)) })) ∙ ap (λ (n : ℕ). 32 * n) (path_length_lem d i bs below);
      }

  sealed_is : (seal_form (seal_bytes y) ≡ true) × (y ≡ sealed (seal_bytes y))
  sealed_is = good (seal_form (seal_bytes y)) SealForm (sealed (seal_bytes y)) y (sym (seals.written_is_read y (record { named = named; few = few; sized = root_size d size (length bs) bs })))

  under : is_under d k y ≡ true
  under = and_from (eqb k k) _ (eq-eqb k k refl) (ap (λ (b : Bool). cond b (bytes_eq (root d bs) (d [])) true) (ne_eqb (length bs) 0 (λ e. omega (arith, e, below))))

  led : leads d x y ≡ true
  led = (bytes_eq-Decides (path_root d (turns i (length bs)) (get_or bs i []) (digests (flat_map (λ p. p) (path d i bs)))) (root d bs)).1 (ap (λ (ps : List Bytes). path_root d (turns i (length bs)) (get_or bs i []) ps) all ∙ complete d i bs below)

  held : held_answer d x y ≡ Ok (shown x)
  held = rw (eq-eqb k k refl, eq-eqb (length bs) (length bs) refl, led)

  accepted : check_answer d k (seal_bytes y) (slip_bytes x) ≡ Ok (shown x)
  accepted =
      cond-true (seal_under d k (seal_bytes y)) (unless_read (slip_fault (slip_bytes x)) (held_answer d (slipped (slip_bytes x)) (sealed (seal_bytes y)))) (Err SealForm)
      (and_from (seal_form (seal_bytes y)) (is_under d k (sealed (seal_bytes y))) sealed_is.0 (subst (λ (z : Sealed). is_under d k z ≡ true) sealed_is.1 under))
      ∙ ap (λ (o : Option ℕ). unless_read o (held_answer d (slipped (slip_bytes x)) (sealed (seal_bytes y)))) (no_fault x sound)
      ∙ ap₂ (λ (u : Slipped) (v : Sealed). held_answer d u v) (same_parts x sound) (sym sealed_is.1)
      ∙ held

pub true_is_accepted : TrueIsAccepted
true_is_accepted = accepted
