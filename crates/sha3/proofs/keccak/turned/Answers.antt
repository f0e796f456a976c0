use Rattle.std.proofs.Common.{rules, ◌≡◌, ℕ, ◌+◌, ◌*◌, ◌%◌, refl}
use Rattle.sha3.specs.Keccak.{lane, rotated, offsets}
use Rattle.sha3.proofs.Rows.{place}
use Rattle.hash.proofs.Made.{made}
use Rattle.sha3.proofs.keccak.turned.Goals as goal

pub returns : goal.returns
returns c =
    let R = c.args.a.now in
    let n = c.args.y in
    let v = λ (x : ℕ). rotated (place R ((x + 3 * n) % 5) x) (lane offsets ((x + 3 * n) % 5) x) in
    made _ v (λ p. (p.0.now ≡ n) × (p.1.now ≡ R)) (λ p q i y s k. (cc, search rules)) c.from_fn.result _ 5 0 (refl, refl) c.from_fn.ensures.items
