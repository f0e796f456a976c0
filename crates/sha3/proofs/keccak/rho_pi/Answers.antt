use Rattle.std.proofs.Common.{ℕ, ◌+◌, ◌*◌, ◌%◌}
use Rattle.sha3.specs.Keccak.{lane, rotated, offsets, ρ, π}
use Rattle.sha3.proofs.Rows.{place, stacked}
use Rattle.sha3.proofs.keccak.rho_pi.Goals as goal

pub returns : goal.returns
unfolding ρ π
returns c =
    let f = λ (x y : ℕ). rotated (place c.args.a.now ((x + 3 * y) % 5) x) (lane offsets ((x + 3 * y) % 5) x) in
    stacked f _ _ _ _ _ c.turned.ensures c.turned-2.ensures c.turned-3.ensures c.turned-4.ensures c.turned-5.ensures
