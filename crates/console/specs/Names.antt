-- The words that name the console's commands.
--
--    call_name k    the word that names a call of the kind k
--    name c         the word that names the command c
use Rattle.std.specs.Prelude.{ℕ, List, codes}
use Rattle.carry.specs.declared.call.Kind.{Kind}
use Rattle.carry.specs.declared.call.Kind.TheVariants as kind
use Rattle.console.specs.declared.perform.Command.{Command}
use Rattle.console.specs.declared.perform.Command.TheVariants as command

unfoldable pub call_name : Kind → List ℕ
call_name kind.Reset = codes "reset"
call_name kind.Look = codes "look"
call_name kind.Write = codes "write"
call_name kind.Read = codes "read"

unfoldable pub name : Command → List ℕ
name (command.Call k) = call_name k
name command.Looks = codes "looks"
name command.Pack = codes "pack"
name command.Unpack = codes "unpack"
name command.Play = codes "play"
name command.Group = codes "group"
name command.Groups = codes "groups"
name command.Fetch = codes "fetch"
name command.Undo = codes "undo"
name command.Press = codes "press"
name command.Release = codes "release"
name command.Wait = codes "wait"
name command.Held = codes "held"
name command.Irq = codes "irq"
name command.Pins = codes "pins"
name command.Drive = codes "drive"
name command.Show = codes "show"
name command.Help = codes "help"
name command.Quit = codes "quit"
