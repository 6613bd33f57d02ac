use Rattle.std.proofs.Common.{◌≡◌, length, take}
use Rattle.std.specs.List.{All, AllZip}
use Rattle.cog_client.proofs.LengthLemmas.{IsShort, IsWithin}
use Rattle.cog_client.specs.Early.{IsRequestFor}
use Rattle.cog_client.proofs.EarlyLemmas.{texts_of}
use Rattle.cog_client.proofs.client.Client.early_requests.Given as goal

abbrev pub invariant-loop-span : goal.invariant-loop-span
invariant-loop-span l = record {
  asks : AllZip (IsRequestFor l.self) (take l.span-index l.span-items) (texts_of l.texts.items);
  few : length l.texts.items ≡ l.span-index;
  short : All (IsShort l.self) l.texts.items;
  long : All IsWithin l.texts.items;
}
