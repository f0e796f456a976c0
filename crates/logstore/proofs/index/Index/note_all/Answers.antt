use Rattle.std.proofs.Common.{◌≡◌, ◌+◌, length, set, Some, None, vec_items, sym, ap, ◌∙◌, subst}
use Rattle.fields.specs.Fields.{Reading, from}
use Rattle.logstore.specs.Index.{slot}
use Rattle.logstore.specs.Records.{Step, size}
use Rattle.logstore.specs.Sized.{record_is}
use Rattle.logstore.proofs.Indexes.{Noted, noted_none, noted_more, noted_all}
use Rattle.logstore.proofs.index.Index.note_all.Goals as goal
use Rattle.logstore.proofs.index.Index.note_all.Goals.{In-Some}

pub loop-place-init : goal.loop-place-init
loop-place-init c = record {
  reading = ap (λ s. s.reader) c.into_iter-place-iterator.ensures.into_iter_gives ∙ c.new-place-items.ensures;
  noted = (length c.args.bytes.now, noted_none c.args.bytes.now (vec_items c.args.self.now.starts) c.requires);
}

-- a record stands at the stop
stands : (c : goal.In-Some) → Step (from c.args.bytes.now c.loop-place.stop) (Some (c.in-Some.place, c.in-Some.part)) c.next.new.self.reader
stands c = subst (λ r. Step r (Some (c.in-Some.place, c.in-Some.part)) c.next.new.self.reader) c.loop-place.invariant.reading c.in-Some.ensures.steps

pub note-requires : goal.note-requires
note-requires c = (record_is c.args.bytes.now c.loop-place.stop c.in-Some.place (stands (goal.at.note-requires c).In-Some).0).within

pub loop-place-preserved : goal.loop-place-preserved
loop-place-preserved c =
    let bs = c.args.bytes.now in
    let old = c.loop-place.invariant in
    let index = c.loop-place.self in
    let starts = vec_items index.starts in
    let stop = c.loop-place.stop in
    let q = c.in-Some.place in
    let step = stands (goal.at.loop-place-preserved c).In-Some in
    let next : stop + size q ≡ c.in-Some.part.end = sym (step.2 ∙ ap (λ (r : Reading). r.at) step.3) in
    let more = noted_more bs starts stop old.noted.0 q (sym index.starts.ok.0 ∙ index.wide) step.0 old.noted.1 in
    let starts' = c.note.ensures ∙ ap (λ n. set starts (slot q) (Some n)) step.1 in
    record {
      reading = step.3 ∙ ap (from bs) next;
      noted = (more.0, subst (λ n. Noted bs (vec_items c.note.new.self.starts) n more.0) next (subst (λ z. Noted bs z (stop + size q) more.0) (sym starts') more.1));
    }

pub returns : goal.returns
returns c =
    let bs = c.args.bytes.now in
    let old = c.loop-place.invariant in
    let none = subst (λ r. Step r None c.next.new.self.reader) old.reading c.in-None.ensures.steps in
    let all = noted_all bs (vec_items c.loop-place.self.starts) c.loop-place.stop old.noted.0 none old.noted.1 in
    record { stop = all.0; agrees = all.1 }
