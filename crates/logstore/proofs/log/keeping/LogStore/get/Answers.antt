use Rattle.std.proofs.Common.{◌≡◌, ◌+◌, length, Some, Ok, sym, refl, ap, ◌∙◌, arith, rules}
use Rattle.store.specs.Store.{filled}
use Rattle.logstore.proofs.Stores.{Seen, seen, got_last, copied}
use Rattle.logstore.proofs.log.keeping.LogStore.get.Goals as goal
use Rattle.logstore.proofs.log.keeping.LogStore.get.Goals.{In_ok-at}

-- the index has a record here
found : (c : goal.In_ok-at) → Seen c.args.self.now c.args.place (length c.args.out.now) c.in_ok-at.at
found c =
    let is : c.start.result ≡ Some c.in_ok-at.at = search rules in
    seen c.args.self.now c.args.place (length c.args.out.now) c.in_ok-at.at c.in_ok-admit.ensures (sym is ∙ c.start.ensures)

pub overflow_add-start : goal.overflow_add-start
overflow_add-start c = omega (arith, (found (goal.at.overflow_add-start c).In_ok-at).fits, c.header_length.ensures, c.args.self.now.within, c.args.self.now.bytes.small)

pub overflow_add-end : goal.overflow_add-end
overflow_add-end c = omega (arith, (found (goal.at.overflow_add-end c).In_ok-at).fits, c.header_length.ensures, c.args.self.now.within, c.args.self.now.bytes.small)

pub slice_bounds-copy_from_slice-end : goal.slice_bounds-copy_from_slice-end
slice_bounds-copy_from_slice-end c = omega (arith, (found (goal.at.slice_bounds-copy_from_slice-end c).In_ok-at).fits, c.header_length.ensures, c.args.self.now.within, c.deref.ensures.len)

pub returns : goal.returns
returns c =
    let l = c.args.self.now in
    let p = c.args.place in
    let n = length c.args.out.now in
    let at = c.in_ok-at.at in
    let s = found (goal.at.returns c).In_ok-at in
    let reply = got_last l p n at c.in_ok-admit.ensures s in
    let out = c.copy_from_slice.ensures.after ∙ copied l p n at (at + c.header_length.result) c.deref.result.now s c.deref.ensures.value (ap (λ h. at + h) c.header_length.ensures) in
    record {
      told = λ _. record { reply = ap Ok out ∙ sym reply; left = refl };
      out = λ _. out ∙ sym (ap (λ r. filled r c.args.out.now) reply);
      does = refl;
    }
