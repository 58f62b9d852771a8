use Rattle.std.specs.Prelude.{ℕ, List, ◌++◌, codes}
use Rattle.std.specs.Fmt.{decimal}
use Rattle.nodes.specs.Texts.{refusal_text}
use Rattle.writer.specs.declared.call.WriterCall.{WriterCall}
use Rattle.writer.specs.declared.call.WriterCall.TheVariants.{Begin, Open, Value, Close, End}
use Rattle.writer.specs.declared.fault.WriteFault.{WriteFault}

-- how a call prints
abbrev pub call_text : WriterCall → List ℕ
call_text (Begin d) = codes "begin document " ++ decimal d
call_text (Open t) = codes "open tag " ++ decimal t
call_text (Value t n) = codes "value tag " ++ (decimal t ++ (codes ", number " ++ decimal n))
call_text Close = codes "close"
call_text End = codes "end"

-- how the fault of a call prints
abbrev pub write_fault_text : WriteFault → List ℕ
write_fault_text f = refusal_text f.refusal ++ (codes " at " ++ decimal f.place)
