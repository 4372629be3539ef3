mod AgainLemmas
mod CalledLemmas
mod MemberLemmas
mod Spans
mod Taken
