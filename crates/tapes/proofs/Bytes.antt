use Rattle.std.proofs.Common.{◌≡◌, ℕ, ◌<◌, true, false, eqb, leb, List, ◌∷◌, length, Ok, refl, arith}
use Rattle.std.proofs.lemmas.Bool.{le-leb, ne_eqb}
use Rattle.std.proofs.lemmas.Nat.{from_be_bytes-to_be_bytes_2, from_be_bytes-to_be_bytes_4}
use Rattle.nodes.specs.Bytes.{two, four}
use Rattle.tapes.specs.declared.command.Command.TheVariants.{Begin, Open, Close, Value, End}
use Rattle.tapes.specs.Command.{command_in}

-- the command at the front of a command's bytes
pub close_in : (r : List ℕ) → command_in (3 ∷ r) ≡ Ok Close
close_in r =
    let l = length (3 ∷ r) in
    let a : eqb l 0 ≡ false = ne_eqb l 0 (λ e. omega arith) in
    let b : leb 1 l ≡ true = le-leb 1 l (omega arith) in
    rw (a, b) refl

pub end_in_lem : (r : List ℕ) → command_in (5 ∷ r) ≡ Ok End
end_in_lem r =
    let l = length (5 ∷ r) in
    let a : eqb l 0 ≡ false = ne_eqb l 0 (λ e. omega arith) in
    let b : leb 1 l ≡ true = le-leb 1 l (omega arith) in
    rw (a, b) refl

pub value_in : (t n : ℕ) (r : List ℕ) → t < 65536 → n < 4294967296 → command_in (4 ∷ two t (four n r)) ≡ Ok (Value t n)
value_in t n r h k =
    let l = length (4 ∷ two t (four n r)) in
    let a : eqb l 0 ≡ false = ne_eqb l 0 (λ e. omega arith) in
    let b : leb 7 l ≡ true = le-leb 7 l (omega arith) in
    rw (a, b, from_be_bytes-to_be_bytes_2 t h, from_be_bytes-to_be_bytes_4 n k) refl

pub open_in : (t c : ℕ) (r : List ℕ) → t < 65536 → c < 4294967296 → command_in (2 ∷ two t (four c r)) ≡ Ok (Open t c)
open_in t c r h k =
    let l = length (2 ∷ two t (four c r)) in
    let a : eqb l 0 ≡ false = ne_eqb l 0 (λ e. omega arith) in
    let b : leb 7 l ≡ true = le-leb 7 l (omega arith) in
    rw (a, b, from_be_bytes-to_be_bytes_2 t h, from_be_bytes-to_be_bytes_4 c k) refl

pub begin_in : (d : ℕ) (r : List ℕ) → d < 4294967296 → command_in (1 ∷ four d r) ≡ Ok (Begin d)
begin_in d r k =
    let l = length (1 ∷ four d r) in
    let a : eqb l 0 ≡ false = ne_eqb l 0 (λ e. omega arith) in
    let b : leb 5 l ≡ true = le-leb 5 l (omega arith) in
    rw (a, b, from_be_bytes-to_be_bytes_4 d k) refl
