pub mod Places
pub mod Term
pub mod Terms
pub mod MaybeTerm
pub mod Factor
pub mod Factors
pub mod Cert
pub mod Haves
