mod Nonces
