mod Worked
pub mod AsciiChars
pub mod FormPrefixes
pub mod GoPieces
pub mod GoSpans
pub mod Letters
pub mod Prefixes
pub mod RunePrefixes
pub mod SignPrefixes
pub mod WordPrefixes
