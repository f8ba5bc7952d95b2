mod Places
mod Redos
