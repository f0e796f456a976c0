-- What the steps of a log come to.
-- Assumes nothing.
use Rattle.std.proofs.Common.{◌≡◌, ℕ, ◌+◌, ◌-◌, ◌/◌, ◌≤◌, List, ◌++◌, length, get_or, take, drop, set, Some, None, Ok, vec_items, vec_len, Option, sym, refl, ap, ◌∙◌, subst, arith}
use Rattle.std.proofs.lemmas.List.{append_assoc, length-append, length-take-le, with_items_is, take-append-drop, take_at}
use Rattle.std.specs.Vec.{with_items}
use Rattle.terms.specs.Levels.{most_blocks}
use Rattle.terms.specs.Places.{record_length}
use Rattle.terms.specs.declared.place.Place.{Place}
use Rattle.terms.specs.declared.place.Place.TheVariants.{Block, Node}
use Rattle.store.specs.Bytes.{overwritten}
use Rattle.store.specs.Store.{Kept, admitted, found, reply_of}
use Rattle.store.specs.Store.{Question.asks_get, Question.asks_put}
use Rattle.store.proofs.Overwrites.{length-overwritten}
use Rattle.store.proofs.Replies.{admitted_parts, get_admitted, put_admitted}
use Rattle.logstore.specs.Index.{Agrees, slot, slots}
use Rattle.logstore.specs.Records.{Whole, content_at, header_length, last_of, log_meaning, log_table, longest, record_bytes, size}
use Rattle.logstore.specs.Views.{log_of}
use Rattle.logstore.specs.declared.log.Log.{Log}
use Rattle.logstore.proofs.Indexes.{agrees_grown, agrees_same}
use Rattle.logstore.specs.Sized.{Fits, last_of_fits}
use Rattle.logstore.proofs.Walks.{content_more, record_length_lem, table_grown, whole_grown}

-- the bytes that are records
abbrev records : Log → List ℕ
records l = take l.used (vec_items l.bytes)

used_low : (l : Log) → l.used ≤ length (vec_items l.bytes)
used_low l = omega (arith, l.within, l.bytes.ok.0)

records_length : (l : Log) → length (records l) ≡ l.used
records_length l = length-take-le l.used (vec_items l.bytes) (used_low l)

-- what the index has of a place is its last record, which stands within the bytes that are used
pub record Seen (l : Log) (p : Place) (n at : ℕ) : Type 0 where
  pub last : last_of (records l) p ≡ Some at
  pub fits : at + (header_length p + n) ≤ l.used
  pub long : n ≡ record_length p

pub seen : (l : Log) (p : Place) (n at : ℕ) → Ok tt ≡ admitted p n most_blocks → Some at ≡ get_or (vec_items l.index.starts) (slot p) None → Seen l p n at
seen l p n at a is =
    let parts = admitted_parts p n most_blocks (sym a) in
    let last : last_of (records l) p ≡ Some at = sym (l.agrees p parts.1) ∙ sym is in
    let fits : at + size p ≤ length (records l) = subst (Fits (records l) p) last (last_of_fits (records l) p) in
    record { last = last; fits = omega (arith, records_length l, parts.0); long = parts.0 }

-- its content is the reply to a get
content_used : (l : Log) (p : Place) (at : ℕ) → at + size p ≤ l.used → content_at (records l) p at ≡ content_at (vec_items l.bytes) p at
content_used l p at fits = sym (content_more (records l) (drop l.used (vec_items l.bytes)) p at (omega (arith, records_length l))) ∙ ap (λ z. content_at z p at) (take-append-drop l.used (vec_items l.bytes))

pub got_last : (l : Log) (p : Place) (n at : ℕ) → Ok tt ≡ admitted p n most_blocks → Seen l p n at → reply_of (log_of l) (asks_get p n) ≡ Ok (content_at (vec_items l.bytes) p at)
got_last l p n at a s =
    get_admitted (log_of l) p n (sym a)
    ∙ ap (λ (o : Option ℕ). found (elim o [ None ↦ None | Some i ↦ Some (content_at (records l) p i) ])) s.last
    ∙ ap Ok (content_used l p at (omega (arith, s.fits, s.long)))

pub copied : (l : Log) (p : Place) (n at start : ℕ) (xs : List ℕ) → Seen l p n at → xs ≡ vec_items l.bytes → start ≡ at + header_length p → take (start + n - start) (drop start xs) ≡ content_at (vec_items l.bytes) p at
copied l p n at start xs s e f =
    let long : start + n - start ≡ record_length p = omega (arith, s.long) in
    ap (λ k. take k (drop start xs)) long ∙ ap (λ k. take (record_length p) (drop k xs)) f ∙ ap (λ z. take (record_length p) (drop (at + header_length p) z)) e

-- what a put makes of a log
pub record Wrote (l : Log) (p : Place) (r out : List ℕ) (starts : List (Option ℕ)) (used : ℕ) : Type 0 where
  pub within : used ≤ vec_len l.bytes
  pub whole : Whole (take used (vec_items (with_items l.bytes out)))
  pub agrees : Agrees (take used (vec_items (with_items l.bytes out))) starts
  pub kept : Kept (log_of l) (asks_put p r) (Ok tt) (log_meaning (vec_items (with_items l.bytes out)) used)
  pub bytes : vec_items (with_items l.bytes out) ≡ overwritten (vec_items l.bytes) l.used (record_bytes p r)
  pub grows : used ≡ l.used + size p

-- a record is no longer than the longest
pub size_high : (p : Place) → size p ≤ longest
size_high (Block i) = omega arith
size_high (Node v j) = omega arith

-- the used bytes after a record is written behind them
front_written : (bytes x : List ℕ) (used used' : ℕ) → used ≤ length bytes → used' ≡ used + length x → take used' (overwritten bytes used x) ≡ take used bytes ++ x
front_written bytes x used used' low e =
    let long : length (take used bytes ++ x) ≡ used' = omega (arith, length-append (take used bytes) x, length-take-le used bytes low) in
    ap (take used') (sym (append_assoc (take used bytes) x (drop (used + length x) bytes))) ∙ take_at (take used bytes ++ x) (drop (used + length x) bytes) used' long

pub wrote : (l : Log) (p : Place) (r xs out : List ℕ) (starts : List (Option ℕ)) (h : ℕ) → Ok tt ≡ admitted p (length r) most_blocks → longest ≤ vec_len l.bytes - l.used → xs ≡ vec_items l.bytes → out ≡ overwritten xs l.used (record_bytes p r) → starts ≡ set (vec_items l.index.starts) (slot p) (Some l.used) → h ≡ header_length p → Wrote l p r out starts (l.used + h + length r)
wrote l p r xs out starts h a free ex eo es eh =
    let parts = admitted_parts p (length r) most_blocks (sym a) in
    let bytes = vec_items l.bytes in
    let used = l.used in
    let used' = used + h + length r in
    let x = record_bytes p r in
    let long : length x ≡ size p = record_length_lem p r parts.0 in
    let grows : used' ≡ used + size p = omega (arith, parts.0) in
    let fits : used + length x ≤ length bytes = omega (arith, size_high p, l.bytes.ok.0) in
    let over : out ≡ overwritten bytes used x = eo ∙ ap (λ z. overwritten z used x) ex in
    let same_length : length out ≡ length bytes = ap length over ∙ length-overwritten bytes x used fits in
    let items : vec_items (with_items l.bytes out) ≡ overwritten bytes used x = with_items_is l.bytes out (same_length ∙ sym l.bytes.ok.0) ∙ over in
    let new : take used' (vec_items (with_items l.bytes out)) ≡ records l ++ x = ap (take used') items ∙ front_written bytes x used used' (used_low l) (omega arith) in
    let noted : starts ≡ set (vec_items l.index.starts) (slot p) (Some (length (records l))) = es ∙ ap (λ n. set (vec_items l.index.starts) (slot p) (Some n)) (sym (records_length l)) in
    let wide : length (vec_items l.index.starts) ≡ slots = sym l.index.starts.ok.0 ∙ l.index.wide in
    let room : length (vec_items (with_items l.bytes out)) ≡ length bytes = ap length items ∙ length-overwritten bytes x used fits in
    let some : (length bytes - used) / longest ≡ 0 → ⊥ = λ z. omega (arith, l.bytes.ok.0) in
    record {
      within = omega (arith, size_high p);
      whole = subst Whole (sym new) (whole_grown (records l) r p parts.1 parts.0 l.whole);
      agrees = agrees_same (take used' (vec_items (with_items l.bytes out))) (records l ++ x) starts (set (vec_items l.index.starts) (slot p) (Some (length (records l)))) (sym new) (sym noted) (agrees_grown (records l) r (vec_items l.index.starts) p parts.1 parts.0 l.whole wide l.agrees);
      kept = record {
        reply = sym (put_admitted (log_of l) p r (sym a) some);
        left = record {
          table = ap log_table new ∙ table_grown (records l) r p parts.1 parts.0 l.whole;
          span = refl;
          least = omega (arith, room, size_high p, l.bytes.ok.0);
          most = omega (arith, room);
          truthful = refl;
        };
      };
      bytes = items;
      grows = grows;
    }
