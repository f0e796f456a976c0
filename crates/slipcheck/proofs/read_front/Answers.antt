use Rattle.std.proofs.Common.{rules, ◌≡◌, ℕ, ◌+◌, ◌-◌, List, length, take, IfSome, sym, ap, ◌∙◌, subst, arith, length-take-le}
use Rattle.std.specs.Io.KnownBytes.{Consumes}
use Rattle.std.proofs.KnownBytes.{Consumes-nil, Consumes-trans}
use borrow.Rule.Slice.PartMut.{put_mid}
use Rattle.slipcheck.proofs.Fronts.{joined, full, spent}
use Rattle.slipcheck.proofs.read_front.Goals as goal
use Rattle.slipcheck.proofs.read_front.Goals.{else-loop-held-test, then-loop-held-test+in_ok-more+then-more-eq0}

pub loop-held-init : goal.loop-held-init
loop-held-init g c = (search rules, Consumes-nil _)

pub loop-held-preserved : goal.loop-held-preserved
loop-held-preserved g c =
    let held = c.loop-held.held in
    let more = c.in_ok-more.ensures in (
      search rules,
      subst (Consumes _ _) (joined held (length c.loop-held.out - held) c.in_ok-more.more c.loop-held.out c.read.new.buf c.loop-held.invariant.0 more.bound.0)
          (Consumes-trans _ _ _ _ _ c.loop-held.invariant.1 more.bytes.0),
    )

pub slice_bounds-result-end : goal.slice_bounds-result-end
slice_bounds-result-end g c = sym (length-take-le c.loop-held.held c.loop-held-test.out (omega (arith, c.loop-held.invariant.0, c.loop-held-test.auto.out)))

pub returns-clause-bytes : goal.returns-clause-bytes
returns-clause-bytes g c =
    let held = c.loop-held.held in
    let n = length c.args.out.now in
    let kept = c.loop-held.invariant in
    let First = λ (out : List ℕ). IfSome (g.R.Read.remaining c.args.source.now) (λ xs. take held out ≡ take n xs) in
    elim c.loop-held-test.branch [
      | else-loop-held-test w ↦
          subst First (sym w.out-is) (full _ _ _ n kept.1 (length-take-le held c.loop-held.out kept.0 ∙ omega (arith, kept.0, w.loop-held-test.false, c.loop-held.auto.out)))
      | then-loop-held-test+in_ok-more+then-more-eq0 w ↦
          let read = w.in_ok-more.ensures in
          let none = w.if-more-eq0.true in
          let room = length c.loop-held.out - held in
          let same = joined held room w.in_ok-more.more c.loop-held.out w.read.new.buf kept.0 read.bound.0 in
          let out = put_mid held room c.loop-held.out w.read.new.buf in
          let no-more : held + w.in_ok-more.more ≡ held = omega (arith, none) in
          let all = subst (Consumes _ _) (same ∙ ap (λ m. take m out) no-more) (Consumes-trans _ _ _ _ _ kept.1 read.bytes.0) in
          subst First (sym w.out-is) (spent _ _ _ n all (read.bytes.1 none (omega (arith, w.loop-held-test.true))) (omega (arith, kept.0, length-take-le held out (omega (arith, kept.0)))))
    ]
