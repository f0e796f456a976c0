-- The front of a buffer, as it is read into.
use Rattle.std.proofs.Common.{◌≡◌, ℕ, ◌+◌, ◌≤◌, List, ◌++◌, length, take, Some, None, Option, IfSome, sym, ap, ◌∙◌, length-take-le, take_all}
use Rattle.std.proofs.Math.Seq.{take-append-add}
use Rattle.std.proofs.lemmas.List.{append-nil, take_at, take-append-le}
use Rattle.std.specs.Io.KnownBytes.{Consumes, IsAtEnd}
use borrow.Rule.Slice.PartMut.{put_mid, post_of}

-- what was read before, and n bytes more behind it
pub joined : (a k n : ℕ) (xs ys : List ℕ) → a ≤ length xs → n ≤ length ys → take a xs ++ take n ys ≡ take (a + n) (put_mid a k xs ys)
joined a k n xs ys within fits =
    sym (ap (λ m. take (m + n) (put_mid a k xs ys)) (sym (length-take-le a xs within))
    ∙ take-append-add (take a xs) (ys ++ post_of a k xs) n
    ∙ ap (λ r. take a xs ++ r) (take-append-le n ys (post_of a k xs) fits))

-- a full buffer holds the first bytes of all
pub full : (a b : Option (List ℕ)) (bs : List ℕ) (n : ℕ) → Consumes a b bs → length bs ≡ n → IfSome a (λ xs. bs ≡ take n xs)
full None b bs n h e = tt
full (Some xs) None bs n h e = absurd h
full (Some xs) (Some ys) bs n h e = sym (ap (take n) h ∙ take_at bs ys n e)

-- and so does one that is not full, where nothing is left
pub spent : (a b : Option (List ℕ)) (bs : List ℕ) (n : ℕ) → Consumes a b bs → IsAtEnd b → length bs ≤ n → IfSome a (λ xs. bs ≡ take n xs)
spent None b bs n h end short = tt
spent (Some xs) None bs n h end short = absurd h
spent (Some xs) (Some ys) bs n h end short = sym (ap (take n) (h ∙ ap (λ r. bs ++ r) end ∙ append-nil bs) ∙ take_all n bs short)
