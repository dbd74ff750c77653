-- The line on standard error, behind the program's name.
use Rattle.std.specs.Prelude.{ℕ, List, [], ◌++◌, codes, decimal, Option, Some, None}
use Rattle.ct_script.specs.declared.script.What.{What}
use Rattle.ct_script.specs.declared.script.What.TheVariants.{Form, Name, Limit}
use Rattle.ct_top.specs.declared.served.Exit.{Exit}
use Rattle.ct_top.specs.declared.served.Exit.TheVariants as exits

abbrev pub fault_name : What → List ℕ
fault_name Form = codes "form"
fault_name Name = codes "name"
fault_name Limit = codes "limit"

-- why a call ended as it did, when it had sent so many bytes
abbrev pub reason_text : Exit → ℕ → List ℕ
reason_text exits.Done sent = []
reason_text exits.Usage sent = codes "usage"
reason_text (exits.Script fault) sent = codes "script line " ++ decimal fault.line ++ codes ": " ++ fault_name fault.what
reason_text exits.TooLong sent = codes "script too long"
reason_text exits.Read sent = codes "read fault"
reason_text exits.Write sent = codes "write fault after " ++ decimal sent ++ codes " bytes"
reason_text exits.Memory sent = codes "no memory"

-- there is none where the whole report was written
abbrev pub reason_for : Exit → ℕ → Option (List ℕ)
reason_for exits.Done sent = None
reason_for exit sent = Some (reason_text exit sent)
