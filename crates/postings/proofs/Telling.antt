use Rattle.std.proofs.Common.{◌≡◌, ℕ, ◌+◌, ◌*◌, ◌/◌, ◌%◌, ◌≤◌, List, [], ◌∷◌, length, drop, Some, None, Ok, sym, refl, ap, ◌∙◌, add-zero, zero-add, arith}
use native.Mathlib.Nat.{div-div-eq-div-mul}
use Rattle.std.proofs.lemmas.Bool.{lt-ltb, le-ltb, cond-true, cond-false}
use Rattle.nodes.specs.Limits.{max_bytes}
use Rattle.nodes.specs.Node.{row_of, node_of}
use Rattle.nodes.proofs.Made.{node_of_row}
use Rattle.postings.specs.Records.{record_bytes, tag_in, row_in, Posting, under_tag, posting_in}
use Rattle.postings.specs.Reading.{Reading, stopped, read_one, read_from, reading}
use Rattle.postings.specs.Written.{written, all_written, Told}
use Rattle.postings.proofs.Steps.{read_on, in_bounds}

-- a number is read back from its bytes
two_back : (n : ℕ) → n / 256 * 256 + n % 256 ≡ n
two_back n = omega arith

four_back : (n : ℕ) → n / 16777216 * 16777216 + n / 65536 % 256 * 65536 + n / 256 % 256 * 256 + n % 256 ≡ n
four_back n =
    let a : n / 65536 ≡ n / 256 / 256 = sym (div-div-eq-div-mul n 256 256) in
    let b : n / 16777216 ≡ n / 256 / 256 / 256 = sym (div-div-eq-div-mul n 256 65536) ∙ sym (div-div-eq-div-mul (n / 256) 256 256) in
    rw (a, b) (omega arith)

-- a posting is read back from its record
posting_back : (p : Posting) (bs : List ℕ) → posting_in (written p bs) ≡ Ok p
posting_back p bs =
    let t : tag_in (written p bs) ≡ p.tag = two_back p.tag in
    let d = four_back p.node.document in
    let s = four_back p.node.start in
    let e = four_back p.node.end in
    let r : row_in (written p bs) ≡ row_of p.node = λ i. record { document = d i; start = s i; end = e i; level = p.node.level } in
    cond-false _ _ _ (le-ltb (length (written p bs)) record_bytes (omega arith)) ∙ ap (λ k. under_tag k (node_of (row_in (written p bs)))) t ∙ ap (λ k. under_tag p.tag (node_of k)) r ∙ ap (under_tag p.tag) (node_of_row p.node)

-- postings in front of what is read behind them
abbrev in_front : List Posting → Reading → Reading
in_front [] r = r
in_front (p ∷ ps) r = record { postings = p ∷ (in_front ps r).postings; stop = (in_front ps r).stop }

in_front_stopped : (ps : List Posting) (r : Reading) → r.postings ≡ [] → in_front ps r ≡ record { postings = ps; stop = r.stop }
in_front_stopped [] r e = λ i. record { postings = e i; stop = r.stop }
in_front_stopped (p ∷ ps) r e = ap (λ (s : Reading). record { postings = p ∷ s.postings; stop = s.stop }) (in_front_stopped ps r e)

-- the records of some postings are read back, and the reading goes on behind them
all_back : (place : ℕ) (ps : List Posting) (bs : List ℕ) → read_from 0 place (all_written ps bs) ≡ in_front ps (read_from 0 (place + record_bytes * length ps) bs)
all_back place [] bs = rw add-zero
all_back place (p ∷ ps) bs =
    let next = read_from 0 (place + record_bytes) (all_written ps bs) in
    let e : place + record_bytes + record_bytes * length ps ≡ place + record_bytes * length (p ∷ ps) = omega arith in
    read_on place (written p (all_written ps bs)) (omega arith)
    ∙ ap (λ k. read_one place k next) (posting_back p (all_written ps bs))
    ∙ ap (read_one place (Ok p)) (all_back (place + record_bytes) ps bs)
    ∙ ap (λ k. read_one place (Ok p) (in_front ps (read_from 0 k bs))) e

-- what a reading is, of bytes that are not too many
begun : (bs : List ℕ) → length bs ≤ max_bytes → reading bs ≡ read_from 0 0 bs
begun bs h = in_bounds 0 bs (omega arith)

pub told : (bs : List ℕ) → Told bs (reading bs)
told bs = record {
  overlong = λ h. cond-true _ _ _ (lt-ltb max_bytes (0 + length bs) (omega arith));
  whole = λ ps h e. begun bs h ∙ ap (read_from 0 0) e ∙ all_back 0 ps [] ∙ in_front_stopped ps (stopped None) refl;
  damaged = λ ps behind f h e l w.
      let s : Reading = stopped (Some (record { refusal = f; place = record_bytes * length ps })) in
      let k : read_from 0 (record_bytes * length ps) behind ≡ s = read_on (record_bytes * length ps) behind l ∙ ap (λ q. read_one (record_bytes * length ps) q (read_from 0 (record_bytes * length ps + record_bytes) (drop record_bytes behind))) w in
      begun bs h ∙ ap (read_from 0 0) e ∙ all_back 0 ps behind ∙ ap (λ n. in_front ps (read_from 0 n behind)) (zero-add (record_bytes * length ps)) ∙ ap (in_front ps) k ∙ in_front_stopped ps s refl;
}
