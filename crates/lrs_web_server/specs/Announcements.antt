-- What a service says once it listens.
use Rattle.std.specs.Prelude.{◌≡◌, ℕ, [], ◌∷◌, ◌++◌, codes, Option, Result, Ok, Err}
use Rattle.std.specs.Fmt.{decimal}
use Rattle.std.specs.Io.KnownBytes.{Appends}
use Rattle.lrs_machine.specs.Lines.{Text}
use Rattle.lrs_web.specs.declared.door.Served.{Served}
use Rattle.lrs_web_server.specs.declared.service.ServiceFault.{ServiceFault}
use Rattle.lrs_web_server.specs.declared.service.ServiceFault.TheVariants as ended

-- a line with the port
abbrev pub listening_line : ℕ → Text
listening_line port = codes "listening " ++ decimal port ++ 10 ∷ []

-- What a service has written when it ends: its line, and nothing else; or nothing, where it cannot have its port. Of a writer that failed nothing is known.
abbrev pub HasSaid : ℕ → Result Served ServiceFault → Option Text → Option Text → Type 0
HasSaid port (Ok served) before after = Appends before after (listening_line port)
HasSaid port (Err ended.Port) before after = after ≡ before
HasSaid port (Err ended.Door) before after = Appends before after (listening_line port)
HasSaid port (Err ended.Desk) before after = Appends before after (listening_line port)
HasSaid port (Err ended.Write) before after = Unit {0}
