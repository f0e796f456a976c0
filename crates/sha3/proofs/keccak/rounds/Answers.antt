use Rattle.std.proofs.Common.{◌≡◌, ℕ, List, [], get_or, set, refl, ap, ◌∙◌, add-one, arith}
use lib.Bits.{bit_xor}
use Rattle.sha3.specs.Keccak.{θ, ρ, π, χ, ι, constants, Rnd, rounds, keccak_f}
use Rattle.sha3.specs.Rows.{lanes}
use Rattle.sha3.proofs.Rows.{lanes-first_set, square-first_set}
use Rattle.sha3.proofs.keccak.rounds.Goals as goal

pub loop-constant-init : goal.loop-constant-init
unfolding rounds
loop-constant-init c = record { same = refl; square = c.requires }

pub loop-constant-preserved : goal.loop-constant-preserved
unfolding ι Rnd rounds
loop-constant-preserved c =
    let i = c.loop-constant.constant-index in
    let R = c.chi-a.result in
    let v = bit_xor (get_or (get_or R 0 []) 0 0) (get_or constants i 0) in
    let bent = c.chi-a.ensures.lanes ∙ ap χ (c.rho_pi.ensures ∙ ap (λ (A : List ℕ). π (ρ A)) (c.theta.ensures ∙ ap θ c.loop-constant.invariant.same)) in
    record {
      same = rw add-one (lanes-first_set R v c.chi-a.ensures.square ∙ ap (λ (A : List ℕ). set A 0 (bit_xor (get_or A 0 0) (get_or constants i 0))) bent);
      square = square-first_set R v c.chi-a.ensures.square;
    }

pub returns : goal.returns
unfolding keccak_f
returns c =
    let all : c.loop-constant.constant-index ≡ 24 = omega arith in
    record {
      lanes = c.loop-constant.invariant.same ∙ ap (λ (n : ℕ). rounds n (lanes c.args.a)) all;
      square = c.loop-constant.invariant.square;
    }
