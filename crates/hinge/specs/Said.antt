use Rattle.std.specs.Prelude.{ℕ, List, ◌++◌, codes, Some, None, Ok, Err, Result}
use Rattle.std.specs.Fmt.{decimal}
use Rattle.nodes.specs.declared.refusal.Fault.{Fault}
use Rattle.nodes.specs.Refusals.{number}
use Rattle.runs.specs.declared.call.Answer.{Answer}
use Rattle.runs.specs.Texts.{tally_text}
use Rattle.writer.specs.Texts.{write_fault_text}
use Rattle.hinge.specs.declared.said.Said.{Said}
use Rattle.hinge.specs.declared.said.Said.TheVariants.{Next, Skip, Tell}
use Rattle.hinge.specs.declared.said.Written.{Written}

-- a refusal of a turn by its number and its turn
abbrev pub told_of : Fault → ℕ × ℕ
told_of f = (number f.refusal, f.place)

-- an answer in the numbers of the rules: a pair by the starts of its two nodes
abbrev pub said_of : Answer → Said
said_of (Answer.Next (Ok (Some p))) = Next (Ok (Some (p.container.start, p.contained.start)))
said_of (Answer.Next (Ok None)) = Next (Ok None)
said_of (Answer.Next (Err f)) = Next (Err (told_of f))
said_of (Answer.Skip (Ok n)) = Skip (Ok n)
said_of (Answer.Skip (Err f)) = Skip (Err (told_of f))
said_of (Answer.Tell t) = Tell t

-- how a refusal of a turn prints
abbrev pub refused_text : (number turn : ℕ) → List ℕ
refused_text n t = codes "refusal " ++ (decimal n ++ (codes " at turn " ++ decimal t))

-- how an answer prints
abbrev pub said_text : Said → List ℕ
said_text (Next (Ok (Some p))) = codes "pair " ++ (decimal p.0 ++ (codes ", " ++ decimal p.1))
said_text (Next (Ok None)) = codes "the end"
said_text (Next (Err r)) = refused_text r.0 r.1
said_text (Skip (Ok n)) = decimal n ++ codes " passed"
said_text (Skip (Err r)) = refused_text r.0 r.1
said_text (Tell t) = tally_text t

-- how an answer to a call of a writer prints
abbrev pub written_text : Written → List ℕ
written_text w = elim w.answer [ Ok u ↦ codes "accepted" | Err f ↦ write_fault_text f ]
